-- A passive node: nothing is under way where its tables stand, and it begins nothing.
use Rattle.std.proofs.Common.{ℕ, Bool, true, false, cond, List, [], ◌∷◌, ◌≡◌, map, Some, refl, sym, ap, ◌∙◌, subst, arith, inl, inr}
use Rattle.std.specs.Prelude.{flat_map}
use Rattle.std.specs.List.{slice_get, sum_by, AllByRecursion}
use Rattle.std.proofs.lemmas.List.Sums.{sum_by-cons, sum_by-append}
use Rattle.hpx_value.specs.declared.acts.Job.{Job}
use Rattle.hpx_parcel.specs.Credits.{Credit, credits_of}
use Rattle.hpx_journal.specs.Entries.{name_of}
use Rattle.hpx_journal.specs.Local.{is_act, is_travel}
use Rattle.hpx_journal.specs.Tokens.{held}
use Rattle.hpx_journal.specs.Whole.{IsQuietAt}
use Rattle.hpx_journal.proofs.Same.{same_token-true}
use Rattle.hpx_part.specs.Data.{Token, Local}
use Rattle.hpx_part.specs.Keyed.{Agree}
use Rattle.hpx_part.specs.Shows.{IsWeight, Shows}
use Rattle.hpx_part.proofs.Keyed.{counts_of, counts_true}
use Rattle.hpx_part.proofs.Keys.{own, travels, own_travel}
use Rattle.hpx_steps.specs.Frames.{IsSpelled}
use Rattle.hpx_steps.specs.Rest.{view, tokens, kept_ids}
use Rattle.hpx_steps.specs.Turn.{tokens_of, parcel_tokens, parcel_travels}
use Rattle.hpx_tables.specs.Jobs.{Starts, IsRunning}
use Rattle.hpx_tables.specs.Tables.{Tables, IsPassive, messages}
use Rattle.hpx_node.specs.Handled.{Tends}
use Rattle.hpx_node.specs.Names.{Entry}
use Rattle.hpx_node.proofs.Messages.{passive_none}

-- ---- tokens that are owed

-- 1 for one that is owed
abbrev owed_counts : Token → ℕ
owed_counts x = cond x.owed 1 0

owed_weighs : IsWeight owed_counts
owed_weighs a b h = let t = same_token-true a b h in ap (λ o. cond o 1 0) (sym t.owed)

none_held_owed : (cs : List Credit) → sum_by owed_counts (map held cs) ≡ 0
none_held_owed [] = refl
none_held_owed (c ∷ cs) = omega (arith, sum_by-cons owed_counts (held c) (map held cs), none_held_owed cs)

not_owed : (b : Bool) → ◌≡◌ {A = ℕ} (cond b 1 0) 0 → b ≡ false
not_owed true h = absurd (omega (arith, h))
not_owed false h = refl

none_owed : (ks : List Token) → sum_by owed_counts ks ≡ 0 → AllByRecursion (λ k. k.owed ≡ false) ks
none_owed [] h = tt
none_owed (k ∷ ks) h =
    let c = sum_by-cons owed_counts k ks in
    (not_owed k.owed (omega (arith, c, h)), none_owed ks (omega (arith, c, h)))

-- ---- a passive node

none_agrees : {K X : Type 0} (test : K → X → Bool) (key : X → K) (own : (x : X) → test (key x) x ≡ true) (xs : List X) → Agree test xs [] → xs ≡ []
none_agrees test key own [] h = refl
none_agrees test key own (x ∷ xs) h =
    absurd (omega (arith, h.counts (key x), sum_by-cons (counts_of (test (key x))) x xs, counts_true (test (key x)) x (own x)))

-- nothing is under way where its tables stand
pub passive_quiet : (t : Tables) (s : Local) → IsPassive t → Shows (view t [] []) s → IsQuietAt s
passive_quiet t s h shows =
    let none = passive_none t h in
    record {
      waiting = none_agrees is_act name_of own s.waiting (subst (Agree is_act s.waiting) (waits t h none) shows.acts.waiting);
      fired = none_agrees is_act name_of own s.fired (subst (Agree is_act s.fired) (runs t h) shows.acts.fired);
      travels = none_agrees is_travel travels own_travel s.travels
          (subst (Agree is_travel s.travels) (ap (flat_map parcel_travels) none) shows.objects.travels);
      fresh = shows.objects.fresh;
      due = shows.acts.due;
      owed = none_owed s.tokens (owes t s none shows);
    }
  where
    waits : (t : Tables) → IsPassive t → messages t ≡ [] → (view t [] []).waiting ≡ []
    waits t h none = rw (h.accepted, none) refl

    runs : (t : Tables) → IsPassive t → (view t [] []).fired ≡ []
    runs t h = rw (h.running, h.pending) refl

    owes : (t : Tables) (s : Local) → messages t ≡ [] → Shows (view t [] []) s → sum_by owed_counts s.tokens ≡ 0
    owes t s none shows = omega (
      arith,
      shows.credit.tokens owed_counts owed_weighs,
      sum_by-append owed_counts (tokens t) [],
      sum_by-append owed_counts (tokens_of (kept_ids t)) (flat_map parcel_tokens (messages t)),
      ap (λ ps. sum_by owed_counts (flat_map parcel_tokens ps)) none,
      none_held_owed (credits_of (kept_ids t)),
    )

-- ---- it begins nothing

none_there : {X : Type 0} (xs : List X) (i : ℕ) (x : X) → xs ≡ [] → slice_get xs i ≡ Some x → ⊥
none_there xs i x none at = absurd (cc)

pub starts_none : (t t' : Tables) (job : Job) → IsPassive t → Starts t t' job → ⊥
starts_none t t' job h s = none_there t.accepted s.i job.action h.accepted s.action

pub runs_none : (t : Tables) (job : Job) → IsPassive t → IsRunning t job → ⊥
runs_none t job h r = none_there t.running r.i job.action h.running r.is.runs

pub tends_none : (t t' : Tables) (entries entries' : List Entry) → IsPassive t → Tends t t' entries entries' → ⊥
tends_none t t' entries entries' h (inl d) = none_there t.leaving d.i _ h.leaving d.there
tends_none t t' entries entries' h (inr c) = let e = sym h.desk ∙ c.1.first in absurd (cc)

pub spells_none : (t : Tables) (to : ℕ) (frame : List ℕ) → IsPassive t → IsSpelled t to frame → ⊥
spells_none t to frame h s = let e = sym h.outgoing ∙ s.front.is in absurd (cc)
