-- The words that are left, one by one.
use Rattle.std.proofs.Common.{◌≡◌, ℕ, ◌+◌, ◌<◌, ◌≤◌, ◌↔◌, List, length, drop, get_or, Option, Some, None, refl, ap, sym, ◌∙◌}
use Rattle.std.proofs.lemmas.List.{drop_more, drop_all}
use Rattle.hpx_options.specs.declared.line.Line.{Line}
use Rattle.hpx_options.specs.declared.settings.Settings.{Settings}
use Rattle.hpx_options.specs.Words.{after_word}
use Rattle.hpx_options.specs.Meanings.{BadWord, finished, on_line, settings_of, reading_from}

at_word : (place : ℕ) (line : Line) (words : List (List ℕ)) (i : ℕ) (word : List ℕ) → i < length words → word ≡ get_or words i word →
    reading_from place line (drop i words)
    ≡ on_line (after_word line word) (BadWord place) (λ next. reading_from (place + 1) next (drop (i + 1) words))
at_word place line words i word h is =
    ap (reading_from place line) (drop_more words i word h)
    ∙ ap (λ w. on_line (after_word line w) (BadWord place) (λ next. reading_from (place + 1) next (drop (i + 1) words))) (sym is)

-- a word that fits
pub read_more : (place : ℕ) (line next : Line) (words : List (List ℕ)) (i : ℕ) (word : List ℕ) → i < length words → word ≡ get_or words i word →
    after_word line word ≡ Some next → reading_from place line (drop i words) ≡ reading_from (place + 1) next (drop (i + 1) words)
read_more place line next words i word h is fits =
    at_word place line words i word h is
    ∙ ap (λ o. on_line o (BadWord place) (λ n. reading_from (place + 1) n (drop (i + 1) words))) fits

-- one that does not
pub read_bad : (place : ℕ) (line : Line) (words : List (List ℕ)) (i : ℕ) (word : List ℕ) → i < length words → word ≡ get_or words i word →
    after_word line word ≡ None → reading_from place line (drop i words) ≡ BadWord place
read_bad place line words i word h is fits =
    at_word place line words i word h is
    ∙ ap (λ o. on_line o (BadWord place) (λ n. reading_from (place + 1) n (drop (i + 1) words))) fits

-- no word is left
pub read_end : (place : ℕ) (line : Line) (words : List (List ℕ)) (i : ℕ) → length words ≤ i →
    reading_from place line (drop i words) ≡ finished (settings_of line)
read_end place line words i h = ap (reading_from place line) (drop_all i words h)

-- a place tells which
pub finished_bad : (o : Option Settings) (place : ℕ) → (finished o ≡ BadWord place) ↔ ((place ≡ 0) × (o ≡ None))
finished_bad None place = (λ h. (cc, refl), λ h. cc)
finished_bad (Some settings) place = (λ h. cc, λ h. cc)
