-- Actions on the session keep the laws.
use Rattle.std.specs.Prelude.{ℕ, zero, suc, ℤ, pos, negsuc, Bool, false, nat_lt, nat_le, List, [], ◌∷◌, ◌++◌, ◌≡◌, ◌+◌, ◌/◌, ◌%◌, ◌≤◌, ◌==◌, ◌&&◌, Option, Some, None, length, refl, codes, if◌then◌else◌}
use Rattle.std.specs.List.{AllByRecursion, count_by}
use Rattle.std.specs.Fmt.{decimal, digits, digits_onto, digit_glyph, signed_decimal}
use Rattle.std.proofs.Common.{sym, ap, ◌∙◌, arith, lit≤, inr, length-append}
use Rattle.std.proofs.lemmas.Bool.{cond_both, and_parts, le-ltb}
use Rattle.hpx_value.specs.Values.{bare_state, bare_act, named, message_of}
use Rattle.hpx_value.specs.Shapes.{IsAct, IsState, listed}
use Rattle.hpx_value.specs.Hands.{hand_slots}
use Rattle.hpx_value.specs.Laws.{KeepsLaws, UsesEachOnce, is_made_slot}
use Rattle.hpx_value.proofs.Kept.{length-hand_slots, stays_keeps}
use Rattle.app_compute.specs.Types.{Value, Nothing, Flag, Int, Text, Ref, Fault, Ints, Cont, State, Act}
use Rattle.app_compute.specs.declared.line.Question.{Question}
use Rattle.app_compute.specs.declared.session.Awaited.{Awaited}
use Rattle.app_compute.specs.Acts.{is_empty, refused}
use Rattle.app_compute.specs.Lines.{question_of}
use Rattle.app_compute.specs.Texts
use Rattle.app_compute.specs.Session
use Rattle.app_compute.proofs.PlainKeeps.{none_left}

-- ---- texts are short

length-digits_onto : (k base : ℕ) (upper : Bool) (n : ℕ) (acc : List ℕ) → length (digits_onto k base upper n acc) ≤ k + length acc
length-digits_onto zero base upper n acc = omega arith
length-digits_onto (suc k) base upper n acc =
    cond_both (n / base == 0) _ _ (λ bytes. length bytes ≤ suc k + length acc) (λ e. omega arith)
    (λ e. let more = length-digits_onto k base upper (n / base) (digit_glyph upper (n % base) ∷ acc) in omega arith)

pub length-decimal : (n : ℕ) → length (decimal n) ≤ 64
unfolding digits
length-decimal n = length-digits_onto 64 10 false n []

length-signed : (z : ℤ) → length (signed_decimal z) ≤ 65
length-signed (pos n) = let few = length-decimal n in omega arith
length-signed (negsuc n) = let few = length-decimal (suc n) in omega arith

abbrev word_fits : List ℕ → Type 0
word_fits word = length word ≤ 12

either_word : (b : Bool) (x y : List ℕ) → word_fits x → word_fits y → word_fits (if b then x else y)
either_word b x y p q = cond_both b x y word_fits (λ e. p) (λ e. q)

length-fault_word : (code : ℕ) → word_fits (Texts.fault_word code)
length-fault_word code =
    either_word (code == 1) _ _ (lit≤ tt) (either_word (code == 2) _ _ (lit≤ tt) (either_word (code == 3) _ _ (lit≤ tt)
    (either_word (code == 4) _ _ (lit≤ tt) (either_word (code == 5) _ _ (lit≤ tt) (either_word (code == 6) _ _ (lit≤ tt)
    (either_word (code == 7) _ _ (lit≤ tt) (either_word (code == 8) _ _ (lit≤ tt) (either_word (code == 9) _ _ (lit≤ tt)
    (either_word (code == 10) _ _ (lit≤ tt) (either_word (code == 11) _ _ (lit≤ tt) (lit≤ tt)))))))))))

-- at most one text, which is short
pub record IsShort (texts : List (List ℕ)) : Type 0 where
  pub few : length texts ≤ 16
  pub short : AllByRecursion (λ bytes. length bytes ≤ 16384) texts

pub answer_short : (n : ℕ) (v : Value) → IsShort (Texts.answer_texts n v)
answer_short n (Int z) =
    let number = length-decimal n in
    let value = length-signed z in
    let last = length-append (signed_decimal z) (codes "\n") in
    let behind = length-append (decimal n) (codes ") == " ++ (signed_decimal z ++ codes "\n")) in
    let equals = length-append (codes ") == ") (signed_decimal z ++ codes "\n") in
    let all = length-append (codes "fibonacci(") (decimal n ++ (codes ") == " ++ (signed_decimal z ++ codes "\n"))) in
    record { few = lit≤ tt; short = (omega arith, tt) }
answer_short n (Fault code) =
    let word = length-fault_word code in
    let last = length-append (Texts.fault_word code) (codes "\n") in
    let all = length-append (codes "error: ") (Texts.fault_word code ++ codes "\n") in
    record { few = lit≤ tt; short = (omega arith, tt) }
answer_short n Nothing = record { few = lit≤ tt; short = tt }
answer_short n (Flag b) = record { few = lit≤ tt; short = tt }
answer_short n (Text bytes) = record { few = lit≤ tt; short = tt }
answer_short n (Ref place) = record { few = lit≤ tt; short = tt }
answer_short n (Ints numbers) = record { few = lit≤ tt; short = tt }

-- ---- the laws

no_counts : (make slot : ℕ) → count_by (is_made_slot make slot) [] ≤ 1
no_counts make slot = lit≤ tt

no_places : (place : ℕ) → count_by (λ p. p == place) [] ≤ 8
no_places place = lit≤ tt

module _ (n here : ℕ) (s : State) (a : Act) (some : 1 ≤ n) (h : IsState s) (act : IsAct a) where
  pub refused_keeps : KeepsLaws n 1 here s a (refused s a)
  refused_keeps =
      stays_keeps n 1 here s a (Fault 11) h act (lit≤ tt, lit≤ tt) refl
      (λ c m args. absurd (let low = m.0 in omega arith)) (λ c m args. absurd (let low = m.0 in omega arith))

  module _ (conts : s.conts ≡ []) (cont : a.cont ≡ None) where
    pub unused : UsesEachOnce (length (hand_slots s a)) []
    unused i =
        let none : length (hand_slots s a) ≡ 0 =
        length-hand_slots s a ∙ ap (λ cs. length (cs ++ listed a.cont)) conts ∙ ap (λ c. length (listed c)) cont in
        let zero : (if nat_lt i (length (hand_slots s a)) then 1 else 0) ≡ 0 = ap (λ (b : Bool). if b then 1 else 0) (le-ltb i (length (hand_slots s a)) (omega arith)) in
        sym zero

    pub says_keeps : (texts : List (List ℕ)) → IsShort texts → KeepsLaws n 1 here s a (Session.spoken s.drawn [] [] texts)
    says_keeps texts short = record {
      names = record { places = tt; conts = tt; each = λ place _. no_places place; all = lit≤ tt };
      conts = unused;
      slots = record { made = tt; made_once = no_counts; session = λ other. absurd (other refl); drawn = tt; counted = omega arith };
      few = record { makes = lit≤ tt; sends = lit≤ tt; prints = short.few; managed = tt; session = λ other. absurd (other refl); short = short.short };
      shapes = record {
        state = λ made. record { values = record { few = lit≤ tt; each = tt }; refs = tt; conts = tt; ids = refl; few = lit≤ tt; short = lit≤ tt };
        births = tt;
        sends = λ made. tt;
        replies = λ made. tt;
      };
      moves = record { codes = tt; moves = tt; moved = λ c m args. absurd (let low = m.0 in omega arith); place = λ c m args. absurd (let low = m.0 in omega arith) };
      plain = λ seven. absurd (omega arith);
      roots = tt;
    }

    asks_keep : (q : Option Question) → KeepsLaws n 1 here s a (Session.asks s a q)
    asks_keep None = refused_keeps
    asks_keep (Some q) = record {
      names = record { places = tt; conts = tt; each = λ place _. no_places place; all = lit≤ tt };
      conts = unused;
      slots = record { made = tt; made_once = no_counts; session = λ other. absurd (other refl); drawn = (refl, tt); counted = refl };
      few = record { makes = lit≤ tt; sends = lit≤ tt; prints = lit≤ tt; managed = tt; session = λ other. absurd (other refl); short = tt };
      shapes = record {
        state = λ made. record { values = record { few = lit≤ tt; each = (tt, (tt, (tt, tt))) }; refs = tt; conts = tt; ids = refl; few = lit≤ tt; short = lit≤ tt };
        births = tt;
        sends = λ made. (record { values = record { few = lit≤ tt; each = (tt, (tt, tt)) }; refs = tt; few_refs = lit≤ tt; cont = (refl, tt); ids = refl; short = lit≤ tt }, tt);
        replies = λ made. tt;
      };
      moves = record {
        codes = (((λ x. cc), (λ x. cc)), tt);
        moves = ((λ x. absurd (cc)), tt);
        moved = λ c m args. absurd (let low = m.0 in omega arith);
        place = λ c m args. absurd (let low = m.0 in omega arith);
      };
      plain = λ seven. absurd (omega arith);
      roots = (inr (inr (inr refl), some), tt);
    }

    answers_keep : (slot : ℕ) (v : Value) (x : Option Awaited) → KeepsLaws n 1 here s a (Session.answers s a slot v x)
    answers_keep slot v None = refused_keeps
    answers_keep slot v (Some x) =
        cond_both (slot == x.slot) _ _ (KeepsLaws n 1 here s a) (λ e. says_keeps (Texts.answer_texts x.number v) (answer_short x.number v)) (λ e. refused_keeps)

    args_keep : (args : List Value) → KeepsLaws n 1 here s a (Session.session_args s a args)
    args_keep (Text (mark ∷ line) ∷ []) =
        cond_both ((a.code == 4) && ((mark == 99) && is_empty s.values)) _ _ (KeepsLaws n 1 here s a) (λ e. asks_keep (question_of line)) (λ e. refused_keeps)
    args_keep (Int (pos slot) ∷ v ∷ []) =
        cond_both (a.code == 3) _ _ (KeepsLaws n 1 here s a) (λ e. answers_keep slot v (Session.awaited_in s.values)) (λ e. refused_keeps)
    args_keep _ = refused_keeps

  cont_keeps : s.conts ≡ [] → (cont : Option Cont) → a.cont ≡ cont → KeepsLaws n 1 here s a (Session.session_cont s a cont)
  cont_keeps none None e = args_keep none e a.args
  cont_keeps none (Some c) e = refused_keeps

  pub session_keeps : KeepsLaws n 1 here s a (Session.session_outcome s a)
  unfolding Session.session_outcome
  session_keeps =
      cond_both (is_empty s.conts && nat_le s.drawn 4000000000) _ _ (KeepsLaws n 1 here s a)
      (λ e. cont_keeps (none_left s.conts (and_parts (is_empty s.conts) (nat_le s.drawn 4000000000) e).0) a.cont refl) (λ e. refused_keeps)

-- ---- neither names nor credits matter

pub session_blind : (s : State) (a : Act) → Session.session_outcome s a ≡ Session.session_outcome (bare_state s) (named 0 0 (message_of (bare_act a)))
unfolding Session.session_outcome
session_blind s a = refl

pub computes_blind : (s : State) (a : Act) → Session.computes s a ≡ Session.computes (bare_state s) (named 0 0 (message_of (bare_act a)))
computes_blind s a = refl
