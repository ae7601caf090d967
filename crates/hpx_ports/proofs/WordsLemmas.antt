-- One word more of those that are told.
use Rattle.std.proofs.Common.{ℕ, List, Option, Some, None, [], ◌∷◌, ◌++◌, ◌+◌, ◌≡◌, ◌≤◌, ◌<◌, length, take, sym, refl, arith}
use Rattle.std.specs.Prelude.{IfSome}
use Rattle.std.proofs.lemmas.List.{take_more}
use Rattle.std.proofs.lemmas.Option.{slice_get_within, get_or_from_slice_get}
use Rattle.hpx_ports.specs.Words.{IsWordAt}

pub one_word_more : (told : Option (List (List ℕ))) (n : ℕ) (word : List ℕ) (all : List (List ℕ))
    → IfSome told (λ words. (n ≤ length words) × (all ≡ take n words)) → IsWordAt told n (Some word)
    → IfSome told (λ words. (n + 1 ≤ length words) × (all ++ word ∷ [] ≡ take (n + 1) words))
one_word_more None n word all before at = before
one_word_more (Some words) n word all before at =
    let within : n < length words = slice_get_within words n word (sym at) in
    let here = get_or_from_slice_get words n word word (sym at) in
    (omega arith, rw (before.1, take_more words n word within, here) refl)
