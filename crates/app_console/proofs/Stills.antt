-- Only an action of code 1 asks to move.
use Rattle.std.specs.Prelude.{ℕ, ℤ, Bool, true, List, [], ◌∷◌, ◌≡◌, ◌≢◌, ◌==◌, refl, if◌then◌else◌}
use Rattle.std.proofs.lemmas.Bool.{cond_both, eqb-true}
use Rattle.hpx_calls.specs.Values.{Nothing, Flag, Int, Text, Ref, Fault, Ints, Look, Sort}
use Rattle.hpx_calls.specs.declared.request.Request.{Request}
use Rattle.hpx_calls.specs.declared.request.Request.TheVariants.{Move}
use Rattle.hpx_calls.specs.Requests.{is_key, asks_bare, asks_one, asks_register, asks_step, asks_two, asks_many, request_of}
use Rattle.app_console.specs.Plain.{moved}

abbrev IsStill : {V : Type 0} → Request V → Type 0
IsStill (Move to) = ⊥
IsStill _ = Unit {0}

pub stays : {V : Type 0} (r : Request V) (place : ℕ) → IsStill r → moved r place ≡ place
stays (Move to) place h = absurd h
stays _ place h = refl

module _ {W : Type 0} (s : Sort W) (code : ℕ) (h : code ≢ 1) where
  either : (b : Bool) (x y : Request W) → (b ≡ true → IsStill x) → IsStill y → IsStill (if b then x else y)
  either b x y p q = cond_both b x y IsStill p (λ e. q)

  bare_still : IsStill (asks_bare {V = W} code)
  bare_still =
      either (code == 2) _ _ (λ e. tt) (either (code == 9) _ _ (λ e. tt) (either (code == 10) _ _ (λ e. tt) (either (code == 17) _ _ (λ e. tt) (either (code == 18) _ _ (λ e. tt)
      (either (code == 32) _ _ (λ e. tt) (either (code == 34) _ _ (λ e. tt) (either (code == 35) _ _ (λ e. tt) (either (code == 36) _ _ (λ e. tt) (either (code == 37) _ _ (λ e. tt) tt)))))))))

  one_still : (l : Look) → IsStill (asks_one {V = W} code l)
  one_still (Int z) = either (code == 1) _ _ (λ e. absurd (h (eqb-true code 1 e))) (either (code == 16) _ _ (λ e. tt) tt)
  one_still (Text t) = either (code == 5) _ _ (λ e. tt) (either (code == 7) _ _ (λ e. tt) (either (code == 8) _ _ (λ e. tt) tt))
  one_still Nothing = tt
  one_still (Flag b) = tt
  one_still (Ref r) = tt
  one_still (Fault c) = tt
  one_still (Ints zs) = tt

  step_still : (z : ℤ) (l : Look) → IsStill (asks_step {V = W} z l)
  step_still z (Int y) = tt
  step_still z Nothing = tt
  step_still z (Text t) = tt
  step_still z (Flag b) = tt
  step_still z (Ref r) = tt
  step_still z (Fault c) = tt
  step_still z (Ints zs) = tt

  register_still : (key : List ℕ) (to : W) (l : Look) → IsStill (asks_register key to l)
  register_still key to (Ref r) = either (is_key key) _ _ (λ e. tt) tt
  register_still key to Nothing = tt
  register_still key to (Text t) = tt
  register_still key to (Flag b) = tt
  register_still key to (Int z) = tt
  register_still key to (Fault c) = tt
  register_still key to (Ints zs) = tt

  two_still : (l : Look) (v : W) → IsStill (asks_two s code true l v)
  two_still (Int z) v = either (code == 3) _ _ (λ e. tt) (either (code == 19) _ _ (λ e. step_still z (s.look v)) (either (code == 33) _ _ (λ e. tt) tt))
  two_still (Text t) v = either (code == 5) _ _ (λ e. tt) (either (code == 6) _ _ (λ e. register_still t v (s.look v)) tt)
  two_still Nothing v = tt
  two_still (Flag b) v = tt
  two_still (Ref r) v = tt
  two_still (Fault c) v = tt
  two_still (Ints zs) v = tt

  many_still : (l : Look) (vs : List W) → IsStill (asks_many code l vs)
  many_still (Text t) vs = either (code == 5) _ _ (λ e. tt) tt
  many_still Nothing vs = tt
  many_still (Int z) vs = tt
  many_still (Flag b) vs = tt
  many_still (Ref r) vs = tt
  many_still (Fault c) vs = tt
  many_still (Ints zs) vs = tt

  pub still : (args : List W) → IsStill (request_of s code true args)
  still [] = bare_still
  still (v ∷ []) = either (code == 33) _ _ (λ e. tt) (one_still (s.look v))
  still (v ∷ u ∷ []) = two_still (s.look v) u
  still (v ∷ u ∷ t ∷ vs) = many_still (s.look v) (u ∷ t ∷ vs)
