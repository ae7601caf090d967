-- A commit that was prepared before its last credit came goes on with it.
use Rattle.hpx_node.proofs.Common.{Accepts, Act, Asked, DealsWith, Give, Gives, Id, IsReady, IsReadyFor, List, MayResume, Option, Outcome, Parcel, Ready, Refills, Some, State, Tables, Waits, [], ap, hand_with, put_for, refl, set, slice_get, some_same, stock_with, subst, sym, ℕ, ◌+◌, ◌∙◌, ◌≡◌}
use Rattle.hpx_node.proofs.Given.{IsGivenTo, given_to, last_parts, none_asked}

-- ---- once it is given

module _ (act_of : ℕ → ℕ → ℕ → State → Act → Outcome) (t : Tables) (n : ℕ) (d : List Parcel) (mid : Tables) (id : Id) (entry : ℕ) (y : Ready) (ready : IsReady act_of t id entry y)
    (g : Gives id entry (record t { taken = n; desk = d }) mid) where
  pub at : IsGivenTo t mid id entry g.i y.i ready.before g.after
  at = given_to t n d mid id entry g y.i ready.before ready.there ready.for ready.first

  may_then : (hand : List Id) (asked : List Asked) (refused : Option Id) → hand ≡ hand_with id entry ready.before
      → MayResume (record t { taken = n; desk = d; pending = set t.pending g.i g.after }) (record ready.before { hand = hand; asked = asked; refused = refused }) y.j y.prepared
  may_then hand asked refused is = record {
    drawn = ready.drawn;
    place = ready.place;
    kept = ready.kept;
    prepared = ready.prepared;
    stock = ready.stock ∙ ap (stock_with t ready.before) (sym is);
  }

  -- its job, its outcome and its places are the same
  pub after_is : g.after ≡ record ready.before { hand = g.after.hand; asked = g.after.asked; refused = g.after.refused }
  after_is = rest ready.before g.after at.refills
    where
      rest : (w w' : Waits) → Refills id entry w w' → w' ≡ record w { hand = w'.hand; asked = w'.asked; refused = w'.refused }
      rest w w' refills = rw refills.now refl

  pub none_then : g.after.asked ≡ []
  none_then = none_asked ready.before g.after id entry at.refills (last_parts id ready.before ready.last).1

  pub may_after : MayResume mid g.after y.j y.prepared
  may_after =
      subst (λ (x : Tables). MayResume x g.after y.j y.prepared) (sym g.rest)
      (subst (λ (v : Waits). MayResume (record t { taken = n; desk = d; pending = set t.pending g.i g.after }) v y.j y.prepared) (sym after_is)
      (may_then g.after.hand g.after.asked g.after.refused
      (ap (λ (v : Waits). v.hand) at.refills.now ∙ sym (ap (put_for ready.before.hand id) at.refills.first))))

  pub may_given : (w : Waits) → slice_get mid.pending y.i ≡ Some w → MayResume mid w y.j y.prepared
  may_given w h = subst (λ v. MayResume mid v y.j y.prepared) (some_same g.after w (sym at.now ∙ h)) may_after

-- ---- by the message

-- only a Give makes one ready
pub only_give : (act_of : ℕ → ℕ → ℕ → State → Act → Outcome) (t : Tables) (p : Parcel) (y : Ready) → IsReadyFor act_of t p y → (P : Type 0)
    → ((id : Id) (entry : ℕ) → p ≡ Give id entry → IsReady act_of t id entry y → P) → P
only_give act_of t (Give id entry) y ready P h = h id entry refl ready
only_give act_of t _ y ready P h = absurd ready

-- where it is a Give, it is given
abbrev pub IsGiven : Parcel → Tables → Tables → Type 0
IsGiven p t mid = (id : Id) (entry : ℕ) → p ≡ Give id entry → Gives id entry t mid

pub given_frame : (t s mid : Tables) (p : Parcel) → s ≡ t → DealsWith p (record s { taken = s.taken + 1 }) mid
    → IsGiven p (record t { taken = t.taken + 1; desk = t.desk }) mid
given_frame t s mid p same deals id entry e =
    subst (λ (u : Tables). Gives id entry (record u { taken = u.taken + 1 }) mid) same
    (subst (λ q. DealsWith q (record s { taken = s.taken + 1 }) mid) e deals)

pub given_mail : (t s mid : Tables) (p : Parcel) (rest : List Parcel) → s ≡ t → Accepts p (record s { desk = rest }) mid
    → IsGiven p (record t { taken = t.taken; desk = rest }) mid
given_mail t s mid p rest same accepts id entry e =
    subst (λ (u : Tables). Gives id entry (record u { desk = rest }) mid) same
    (subst (λ q. Accepts q (record s { desk = rest }) mid) e accepts)
