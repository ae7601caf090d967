-- Where nothing runs and no commit waits, no accepted action is stuck.
use Rattle.std.specs.Prelude.{Err, Ok, OnErr, Result}
use Rattle.hpx_node.proofs.Common.{Act, AllByRecursion, IsFree, List, None, NoneIsFree, Option, Some, Standing, Tables, Waits, [], ap, arith, cases_Bool, cond, false, find, fired_acts, fired_of, inl, inr, is_busy, is_some, is_standing, length, refl, slice_get, suc, target_of, true, zero, ℕ, ◌<◌, ◌==◌, ◌∙◌, ◌∷◌, ◌≡◌}

-- the targets of these actions stand among these objects
abbrev pub AreTargets : List Standing → List Act → Type 0
AreTargets objects acts = AllByRecursion (λ act. is_some (find (is_standing (target_of act)) objects) ≡ true) acts

none_fired : (t : Tables) → t.running ≡ [] → t.pending ≡ [] → fired_acts t ≡ []
none_fired t running pending =
    ap (λ (ws : List Waits). fired_of t.running ws) pending ∙ ap (λ (acts : List Act). fired_of acts []) running

free_when : (fired : List Act) (objects : List Standing) (act : Act) (x : Option Standing) → fired ≡ [] → find (is_standing (target_of act)) objects ≡ x
    → is_some x ≡ true → IsFree fired objects act
free_when fired objects act None idle found h = absurd (cc)
free_when fired objects act (Some x) idle found h = record {
  standing = x;
  found = found;
  idle = ap (is_busy (target_of act)) idle ∙ none_busy (target_of act).kind;
}
  where
    none_busy : (kind : ℕ) → cond (kind == 7) false false ≡ false
    none_busy kind = elim (cases_Bool (kind == 7)) [
      | inl t ↦ rw t refl
      | inr f ↦ rw f refl
    ]

pub none_stuck : (t : Tables) (acts : List Act) → t.running ≡ [] → t.pending ≡ [] → AreTargets t.objects acts
    → NoneIsFree (fired_acts t) t.objects acts → acts ≡ []
none_stuck t [] running pending h none = refl
none_stuck t (act ∷ acts) running pending h none =
    absurd (none.0 (free_when (fired_acts t) t.objects act (find (is_standing (target_of act)) t.objects) (none_fired t running pending) refl h.0))

-- where one is free, it is not so that none is
pub one_free : (fired : List Act) (objects : List Standing) (acts : List Act) (i : ℕ) → i < length acts
    → ((act : Act) → slice_get acts i ≡ Some act → IsFree fired objects act) → NoneIsFree fired objects acts → ⊥
one_free fired objects [] i lt free none = absurd (omega arith)
one_free fired objects (act ∷ acts) zero lt free none = none.0 (free act refl)
one_free fired objects (act ∷ acts) (suc i) lt free none = one_free fired objects acts i (omega arith) free none.1

-- what holds anyway holds at an error
pub at_error : {X E : Type 0} (P : Type 0) (r : Result X E) → P → OnErr r P
at_error P (Ok x) h = tt
at_error P (Err e) h = h
