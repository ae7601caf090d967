-- What a journal of `fib` prints.
use Rattle.std.specs.Prelude.{ℕ, Bool, true, false, cond, List, [], ◌∷◌, ◌++◌, ◌≡◌, ◌≤◌, ◌==◌, ◌&&◌, Some, refl}
use Rattle.std.specs.List.{concat, find}
use Rattle.std.specs.Option.{option_map}
use Rattle.std.proofs.Common.{sym, ap, ◌∙◌, subst, inl, inr, append-nil, append_assoc}
use Rattle.std.proofs.lemmas.Bool.{eq-eqb}
use Rattle.hpx_value.specs.Ids.{bare_id}
use Rattle.hpx_value.specs.Values.{empty_state}
use Rattle.hpx_journal.specs.Entries.{Rules}
use Rattle.hpx_journal.specs.declared.entry.Entry.{Entry}
use Rattle.hpx_journal.specs.Local.{is_standing}
use Rattle.hpx_journal.specs.Roots.{root, roots_of_first}
use Rattle.hpx_journal.specs.Whole.{IsLegal}
use Rattle.hpx_journal.specs.Pool.{Pool, NoneFails, boot_pool, fed, prints_of}
use Rattle.hpx_journal.specs.Sessions.{BeginsWith, IsBlock, IsPlainBlock, IsPlainFront, Steps, at_rest}
use Rattle.hpx_journal.proofs.Reduced.{boot_shows}
use Rattle.hpx_journal.proofs.Sessions.{session_front, session_plain}
use Rattle.app_compute.specs.Lines.{fib_line}
use Rattle.app_compute.specs.FibLaw.{IsFront, IsQuestion, fed_line, fib_text}
use Rattle.app_compute.specs.Judging.{IsJudged}
use Rattle.app_compute.proofs.FibLines.{line_asks}
use Rattle.app_compute.proofs.FibRuns.{IsWaiting, Phase, Waits, phases, ends, so_far}

and_false : (b : Bool) → (b && false) ≡ false
and_false true = refl
and_false false = refl

-- a plain object stands at each place
plain_found : (n k : ℕ) (b : Bool)
    → option_map (λ x. x.state) (find (is_standing (bare_id k 7 1)) (cond b (roots_of_first n) [] ++ (root k 3 [] ∷ root k 5 [] ∷ root k 7 [] ∷ [])))
    ≡ Some empty_state
plain_found n k true = rw (eq-eqb k k refl, and_false (k == 0)) refl
plain_found n k false = rw (eq-eqb k k refl) refl

waits_at_boot : (law : Rules) (line : List ℕ) → 1 ≤ law.localities → IsWaiting law.localities line (fed (at_rest (boot_pool law)) (99 ∷ line))
waits_at_boot law line some = record {
  pending = refl;
  session_at = refl;
  rooted = record {
    plain = λ k low. (plain_found law.localities k (k == 0), low);
    alike = λ a b e. ((boot_shows law).alike.alike a b e).0;
    place = some;
  };
  printed = refl;
}

module _ (law : Rules) (judged : IsJudged law) (a t : ℕ) (question : IsQuestion a t) where
  -- wherever the pool comes to from there
  pub reached : (k : ℕ) (q : Pool) → Steps law k (fed (at_rest (boot_pool law)) (fed_line a t)) q → Phase law.localities t a (fib_line a t) q
  reached k q steps =
      phases law judged.computes t a (fib_line a t) question.large question.few question.number (line_asks a t question.number question.large question.few) k
      (fed (at_rest (boot_pool law)) (fed_line a t)) q (Waits (waits_at_boot law (fib_line a t) judged.some)) steps

  pub at_end : (text : List (List ℕ)) (p' : Pool) → IsPlainBlock law (boot_pool law) (fed_line a t) text p' → text ≡ fib_text a ∷ []
  at_end text p' b =
      b.printed ∙ ends law judged.computes t a (fib_line a t) question.large question.few question.number (line_asks a t question.number question.large question.few)
      b.end (reached b.steps b.end b.acts) b.idle

  concat-append : (xs ys : List (List ℕ)) → concat (xs ++ ys) ≡ concat xs ++ concat ys
  concat-append [] ys = refl
  concat-append (x ∷ xs) ys = ap (λ z. x ++ z) (concat-append xs ys) ∙ sym (append_assoc x (concat xs) (concat ys))

  front_of_nothing : (text later : List (List ℕ)) → text ++ later ≡ [] → text ≡ []
  front_of_nothing [] later h = refl
  front_of_nothing (x ∷ text) later h = cc

  broken : (text : List (List ℕ)) → IsPlainFront law (boot_pool law) (fed_line a t) text → IsFront (concat text) (fib_text a)
  broken text b =
      elim (so_far law judged.computes t a (fib_line a t) question.large question.few question.number (line_asks a t question.number question.large question.few)
      b.end (reached b.steps b.end b.acts)) [
        | inl e ↦ record { later = fib_text a; is = ap (λ xs. concat xs ++ fib_text a) (front_of_nothing text b.later (b.printed ∙ e)) }
        | inr e ↦ record { later = concat b.later; is = sym (concat-append text b.later) ∙ (ap concat (b.printed ∙ e) ∙ append-nil (fib_text a)) }
      ]

  pub whole_text : (es : List Entry) → NoneFails es → IsBlock law [] (fed_line a t) es → prints_of es ≡ fib_text a ∷ []
  whole_text es calm block =
      let session =
      session_plain law judged.grammar judged.laws judged.blind [] (boot_pool law) (fed_line a t ∷ []) (es ∷ []) refl (boot_shows law) (subst NoneFails (sym (append-nil es)) calm) (block, tt) in
      at_end (prints_of es) session.0 session.1

  pub front_text : (es : List Entry) → NoneFails es → BeginsWith (fed_line a t) es → IsLegal law es → IsFront (concat (prints_of es)) (fib_text a)
  front_text es calm begins legal =
      broken (prints_of es) (session_front law judged.grammar judged.laws judged.blind [] (boot_pool law) [] [] (fed_line a t) es refl (boot_shows law) tt begins legal calm)
