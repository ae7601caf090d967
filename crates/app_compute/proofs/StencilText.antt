-- What a journal of `stencil` prints.
use Rattle.std.specs.Prelude.{ℕ, Bool, true, false, cond, List, [], ◌∷◌, ◌++◌, ◌≡◌, ◌≤◌, ◌==◌, ◌&&◌, Some, refl}
use Rattle.std.specs.List.{concat, find}
use Rattle.std.specs.Option.{option_map}
use Rattle.std.proofs.Common.{sym, ap, ◌∙◌, subst, append-nil, append_assoc}
use Rattle.std.proofs.lemmas.Bool.{eq-eqb}
use Rattle.hpx_value.specs.Ids.{bare_id}
use Rattle.hpx_value.specs.Values.{empty_state}
use Rattle.hpx_journal.specs.Entries.{Rules}
use Rattle.hpx_journal.specs.declared.entry.Entry.{Entry}
use Rattle.hpx_journal.specs.Local.{is_standing}
use Rattle.hpx_journal.specs.Roots.{root, roots_of_first}
use Rattle.hpx_journal.specs.Whole.{IsLegal}
use Rattle.hpx_journal.specs.Pool.{Pool, NoneFails, boot_pool, fed, prints_of}
use Rattle.hpx_journal.specs.Sessions.{BeginsWith, IsBlock, IsPlainBlock, IsPlainFront, Steps, at_rest}
use Rattle.hpx_journal.proofs.Reduced.{boot_shows}
use Rattle.hpx_journal.proofs.Sessions.{session_front, session_plain}
use Rattle.app_compute.specs.FibLaw.{IsFront}
use Rattle.app_compute.specs.Judging.{IsJudged}
use Rattle.app_compute.specs.Ring.{stencil_texts}
use Rattle.app_compute.specs.Stencil.{stencil_line}
use Rattle.app_compute.specs.StencilLaw.{IsAsked, ring_fed}
use Rattle.app_compute.proofs.RingLines.{line_asks}
use Rattle.app_compute.proofs.RingPhases.{phases, ends, so_far}
use Rattle.app_compute.proofs.RingRuns.{IsFed, Phase, Waits}

and_false : (b : Bool) → (b && false) ≡ false
and_false true = refl
and_false false = refl

-- components stand at each place
maker_found : (n k : ℕ) (b : Bool)
    → option_map (λ x. x.state) (find (is_standing (bare_id k 3 1)) (cond b (roots_of_first n) [] ++ (root k 3 [] ∷ root k 5 [] ∷ root k 7 [] ∷ [])))
    ≡ Some empty_state
maker_found n k true = rw (eq-eqb k k refl, and_false (k == 0)) refl
maker_found n k false = rw (eq-eqb k k refl) refl

waits_at_boot : (law : Rules) (line : List ℕ) → 1 ≤ law.localities → IsFed law.localities line (fed (at_rest (boot_pool law)) (99 ∷ line))
waits_at_boot law line some = record {
  pending = refl;
  session_at = refl;
  rooted = record {
    maker = λ k low. (maker_found law.localities k (k == 0), low);
    alike = λ a b e. ((boot_shows law).alike.alike a b e).0;
    place = some;
  };
  printed = refl;
}

concat-append : (xs ys : List (List ℕ)) → concat (xs ++ ys) ≡ concat xs ++ concat ys
concat-append [] ys = refl
concat-append (x ∷ xs) ys = ap (λ z. x ++ z) (concat-append xs ys) ∙ sym (append_assoc x (concat xs) (concat ys))

module _ (law : Rules) (judged : IsJudged law) (p q s : ℕ) (asked : IsAsked p q s) where
  -- wherever the pool comes to from there
  pub reached : (k : ℕ) (w : Pool) → Steps law k (fed (at_rest (boot_pool law)) (ring_fed p q s)) w → Phase law.localities (stencil_texts p s) (stencil_line p q s) w
  reached k w steps =
      phases law judged.computes p q s asked (stencil_line p q s) (line_asks p q s asked) k (fed (at_rest (boot_pool law)) (ring_fed p q s)) w
      (Waits (waits_at_boot law (stencil_line p q s) judged.some)) steps

  pub at_end : (text : List (List ℕ)) (p' : Pool) → IsPlainBlock law (boot_pool law) (ring_fed p q s) text p' → text ≡ stencil_texts p s
  at_end text p' b =
      b.printed ∙ ends law judged.computes p q s asked (stencil_line p q s) (line_asks p q s asked) b.end (reached b.steps b.end b.acts) b.idle

  broken : (text : List (List ℕ)) → IsPlainFront law (boot_pool law) (ring_fed p q s) text → IsFront (concat text) (concat (stencil_texts p s))
  broken text b =
      let rest = so_far law judged.computes p q s asked (stencil_line p q s) (line_asks p q s asked) b.end (reached b.steps b.end b.acts) in
      record {
        later = concat (b.later ++ rest.0);
        is =
            sym (concat-append text (b.later ++ rest.0))
            ∙ ap concat (sym (append_assoc text b.later rest.0) ∙ (ap (λ ts. ts ++ rest.0) b.printed ∙ rest.1));
      }

  pub whole_text : (es : List Entry) → NoneFails es → IsBlock law [] (ring_fed p q s) es → prints_of es ≡ stencil_texts p s
  whole_text es calm block =
      let session =
      session_plain law judged.grammar judged.laws judged.blind [] (boot_pool law) (ring_fed p q s ∷ []) (es ∷ []) refl (boot_shows law) (subst NoneFails (sym (append-nil es)) calm) (block, tt) in
      at_end (prints_of es) session.0 session.1

  pub front_text : (es : List Entry) → NoneFails es → BeginsWith (ring_fed p q s) es → IsLegal law es → IsFront (concat (prints_of es)) (concat (stencil_texts p s))
  front_text es calm begins legal =
      broken (prints_of es) (session_front law judged.grammar judged.laws judged.blind [] (boot_pool law) [] [] (ring_fed p q s) es refl (boot_shows law) tt begins legal calm)
