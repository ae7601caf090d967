-- In a part without a foreign arrival each action is once at its locality, and each managed object.
use Rattle.std.proofs.Common.{ℕ, true, cond, List, [], ◌∷◌, ◌≡◌, ◌+◌, ◌<◌, ◌≤◌, Option, Some, None, refl, sym, ap, ◌∙◌, arith, inl, inr}
use Rattle.std.specs.Prelude.{◌==◌, ◌&&◌, nat_lt, nat_le}
use Rattle.std.specs.List.{sum_by, count_by}
use Rattle.std.proofs.lemmas.Bool.Decides.{nat_tests}
use Rattle.std.proofs.lemmas.Bool.{cases_Bool}
use Rattle.std.proofs.lemmas.List.Sums.{sum_by-cons}
use Rattle.hpx_value.specs.Ids.{Id, same_object}
use Rattle.hpx_value.specs.Values.{bare_act, bare_state}
use Rattle.hpx_journal.specs.Data.{Act, Parcel, Shipped}
use Rattle.hpx_journal.specs.Entries.{Name, Event, In, Entry, Travel, Rules, same_name, name_of, move_to}
use Rattle.hpx_journal.specs.Frames.{acts_in, travels_in, travel_of}
use Rattle.hpx_journal.specs.Local.{Local, after, boot, is_travel, recorded}
use Rattle.hpx_journal.specs.Rows.{Row, IsDead}
use Rattle.hpx_journal.specs.Names.{IsBacked}
use Rattle.hpx_journal.specs.Bags.{AnyOf}
use Rattle.hpx_journal.specs.Foreign.{present, kept, IsUndrawn, IsForeign, IsForeignAct, IsForeignTravel, NodeKeeps}
use Rattle.hpx_journal.specs.Roots.{roots}
use Rattle.hpx_journal.specs.Whole.{run_local, IsClean, arrives_at}
use Rattle.hpx_journal.specs.Laws.{IsLegalLocal, TargetsStand}
use Rattle.hpx_journal.proofs.Same.{same_name-true, same_object-from}
use Rattle.hpx_journal.proofs.Moves.{act_counts, IsShort, acts_short}
use Rattle.hpx_journal.proofs.Present.{present_moves, drawn_at, frame_acts}
use Rattle.hpx_journal.proofs.Done.{born_at}
use Rattle.hpx_journal.proofs.Objects.{objects_move, frame_objects}
use Rattle.hpx_journal.proofs.Ledger.{IsSane, sane_after, same_homes, same_numbers}
use Rattle.hpx_journal.proofs.Formed.{count_same_object}
use Rattle.hpx_journal.proofs.Keys.{one_if}
use Rattle.hpx_journal.proofs.Start.{roots_unmanaged, boot_sane, boot_backed}

-- whether a number of h was not drawn, n being the last that was
abbrev undrawn_at : ℕ → ℕ → ℕ → ℕ → ℕ
undrawn_at origin number h n = cond (origin == h) (cond (nat_lt 0 number && nat_le number n) 0 1) 0

drawn_or_not : (b : Name) (h m n : ℕ)
    → drawn_at b h m + undrawn_at b.origin b.serial h m ≡ drawn_at b h n + undrawn_at b.origin b.serial h n
drawn_or_not b h m n = grind (arith, nat_tests)

born_or_not : (o : Id) (h m n : ℕ)
    → born_at o h m + undrawn_at o.home o.number h m ≡ born_at o h n + undrawn_at o.home o.number h n
born_or_not o h m n = grind (arith, nat_tests)

undrawn_not : (origin number h n : ℕ) → (origin ≡ h → number ≡ 0 → ⊥) → (origin ≡ h → n < number → ⊥) → undrawn_at origin number h n ≡ 0
undrawn_not origin number h n never late = grind (arith, nat_tests)

undrawn_is : (origin number h n : ℕ) → origin ≡ h → IsUndrawn n number → undrawn_at origin number h n ≡ 1
undrawn_is origin number h n home (inl e) = grind (arith, nat_tests)
undrawn_is origin number h n home (inr e) = grind (arith, nat_tests)

undrawn_le : (origin number h n : ℕ) → undrawn_at origin number h n ≤ 1
undrawn_le origin number h n = grind (arith, nat_tests)

pub record IsSingle (s : Local) : Type 0 where
  pub acts : (a : Name) → present a s + undrawn_at a.origin a.serial s.here s.serial ≤ 1
  pub objects : (o : Id) → 16 ≤ o.kind → kept o s + undrawn_at o.home o.number s.here s.number ≤ 1
  pub sane : IsSane s

-- ---- what comes is not there yet

act_once : (s : Local) (act : Act) (a : Name) → IsSingle s → (IsForeignAct s act → ⊥)
    → present a s + undrawn_at a.origin a.serial s.here s.serial + act_counts a act ≤ 1
act_once s act a single native = elim (cases_Bool (same_name a (name_of act))) [
  | inl t ↦
      let e : a ≡ name_of act = same_name-true a (name_of act) t in
      let none : present (name_of act) s ≡ 0 = omega (arith, λ (h : 1 ≤ present (name_of act) s). native (inl h)) in
      let drawn : undrawn_at act.origin act.serial s.here s.serial ≡ 0 =
      undrawn_not act.origin act.serial s.here s.serial (λ o z. native (inr (o, inl z))) (λ o n. native (inr (o, inr n))) in
      let one : act_counts a act ≡ 1 = ap one_if t in
      let p : present a s ≡ 0 = rw e none in
      let q : undrawn_at a.origin a.serial s.here s.serial ≡ 0 = rw e drawn in
      omega arith
  | inr t ↦ let none : act_counts a act ≡ 0 = ap one_if t in omega (arith, single.acts a)
]

acts_once : (s : Local) (p : Option Parcel) (a : Name) → IsSingle s → (AnyOf (IsForeignAct s) (acts_in p) → ⊥)
    → present a s + undrawn_at a.origin a.serial s.here s.serial + sum_by (act_counts a) (acts_in p) ≤ 1
acts_once s p a single native = short_once (acts_in p) (acts_short p) native
  where
    short_once : (acts : List Act) → IsShort acts → (AnyOf (IsForeignAct s) acts → ⊥)
        → present a s + undrawn_at a.origin a.serial s.here s.serial + sum_by (act_counts a) acts ≤ 1
    short_once [] short native = omega (arith, single.acts a)
    short_once (act ∷ []) short native = omega (arith, act_once s act a single (λ f. native (inl f)))
    short_once (act ∷ x ∷ acts) short native = absurd short

abbrev travel_counts : Id → Travel → ℕ
travel_counts o x = one_if (is_travel o x)

count_same_travel : (a b : Id) → same_object a b ≡ true → (xs : List Travel) → count_by (is_travel a) xs ≡ count_by (is_travel b) xs
count_same_travel a b h [] = refl
count_same_travel a b h (x ∷ xs) =
    omega (
      arith,
      count_same_travel a b h xs,
      sum_by-cons (travel_counts a) x xs,
      sum_by-cons (travel_counts b) x xs,
      ap one_if (same_object-from a b x.object h),
    )

kept_same : (s : Local) (a b : Id) → same_object a b ≡ true → kept a s ≡ kept b s
kept_same s a b h = omega (arith, count_same_object a b h s.objects, count_same_travel a b h s.travels)

travel_once : (s : Local) (x : Travel) (o : Id) → IsSingle s → 16 ≤ o.kind → (IsForeignTravel s x → ⊥)
    → kept o s + undrawn_at o.home o.number s.here s.number + travel_counts o x ≤ 1
travel_once s x o single managed native = elim (cases_Bool (same_object o x.object)) [
  | inl t ↦
      let none : kept x.object s ≡ 0 = omega (arith, λ (h : 1 ≤ kept x.object s). native (inr (inl h))) in
      let homes : o.home ≡ x.object.home = same_homes o x.object t in
      let numbers : o.number ≡ x.object.number = same_numbers o x.object t in
      let drawn : undrawn_at x.object.home x.object.number s.here s.number ≡ 0 =
      undrawn_not x.object.home x.object.number s.here s.number (λ h z. native (inr (inr (h, inl z)))) (λ h n. native (inr (inr (h, inr n)))) in
      let one : travel_counts o x ≡ 1 = ap one_if t in
      let q : undrawn_at o.home o.number s.here s.number ≡ 0 = rw (homes, numbers) drawn in
      omega (arith, kept_same s o x.object t)
  | inr t ↦ let none : travel_counts o x ≡ 0 = ap one_if t in omega (arith, single.objects o managed)
]

travels_short : (p : Option Parcel) → IsShort (travels_in p)
travels_short (Some (Shipped act state)) = short_at (move_to (bare_act act))
  where
    short_at : (moves : Option ℕ) → IsShort (travel_of (bare_act act) (bare_state state) moves)
    short_at None = tt
    short_at (Some to) = tt
travels_short _ = tt

travels_once : (s : Local) (p : Option Parcel) (o : Id) → IsSingle s → 16 ≤ o.kind → (AnyOf (IsForeignTravel s) (travels_in p) → ⊥)
    → kept o s + undrawn_at o.home o.number s.here s.number + count_by (is_travel o) (travels_in p) ≤ 1
travels_once s p o single managed native = short_once (travels_in p) (travels_short p) native
  where
    short_once : (xs : List Travel) → IsShort xs → (AnyOf (IsForeignTravel s) xs → ⊥)
        → kept o s + undrawn_at o.home o.number s.here s.number + count_by (is_travel o) xs ≤ 1
    short_once [] short native = omega (arith, single.objects o managed)
    short_once (x ∷ []) short native = omega (arith, travel_once s x o single managed (λ f. native (inl f)))
    short_once (x ∷ y ∷ xs) short native = absurd short

arriving_acts : (r : Rules) (s : Local) (e : Event) (a : Name) → IsSingle s → (IsForeign r s e → ⊥)
    → present a s + undrawn_at a.origin a.serial s.here s.serial + sum_by (frame_acts r a) (arrives_at s.here e) ≤ 1
arriving_acts r s (In bytes) a single native = omega (arith, acts_once s (r.parcel_of bytes) a single (λ f. native (inl f)))
arriving_acts r s _ a single native = omega (arith, single.acts a)

arriving_objects : (r : Rules) (s : Local) (e : Event) (o : Id) → IsSingle s → 16 ≤ o.kind → (IsForeign r s e → ⊥)
    → kept o s + undrawn_at o.home o.number s.here s.number + sum_by (frame_objects r o) (arrives_at s.here e) ≤ 1
arriving_objects r s (In bytes) o single managed native = omega (arith, travels_once s (r.parcel_of bytes) o single managed (λ f. native (inr f)))
arriving_objects r s _ o single managed native = omega (arith, single.objects o managed)

-- ---- entries

single_after : (r : Rules) (s : Local) (e : Event) → IsSingle s → Row r s e → (IsForeign r s e → ⊥) → IsSingle (after r s e)
unfolding after
single_after r s e single row native = record {
  acts = λ a. omega (
    arith,
    present_moves r s e row s.here a,
    arriving_acts r s e a single native,
    drawn_or_not a s.here s.serial (after r s e).serial,
  );
  objects = λ o managed. omega (
    arith,
    objects_move r s e row s.here o managed,
    arriving_objects r s e o single managed native,
    born_or_not o s.here s.number (after r s e).number,
  );
  sane = sane_after r s e single.sane row;
}

pub single_run : (r : Rules) (s : Local) (es : List Entry) → IsSingle s → IsLegalLocal r s es → IsClean r s es → IsSingle (run_local r s es)
single_run r s [] single legal clean = single
single_run r s (e ∷ es) single legal clean =
    single_run r (after r s e.event) es (single_after r s e.event single legal.0.row clean.0) legal.1 clean.1

pub boot_single : (n k : ℕ) → IsSingle (boot (roots n k) k)
boot_single n k = record {
  acts = λ a. omega (arith, undrawn_le a.origin a.serial k 0);
  objects = λ o managed. omega (arith, roots_unmanaged n k o managed, undrawn_le o.home o.number k 0);
  sane = boot_sane (roots n k) k;
}

pub here_stays : (r : Rules) (s : Local) (es : List Entry) → (run_local r s es).here ≡ s.here
unfolding after
here_stays r s [] = refl
here_stays r s (e ∷ es) = here_stays r (after r s e.event) es

-- a node's part without a foreign arrival is legal
pub keeps_legal : (r : Rules) (s : Local) (es : List Entry) → NodeKeeps r s es → IsClean r s es → IsLegalLocal r s es
keeps_legal r s [] keeps clean = tt
keeps_legal r s (e ∷ es) keeps clean = let h = keeps clean.0 in (h.0, keeps_legal r (after r s e.event) es h.2 clean.1)

keeps_backed_from : (r : Rules) (s : Local) (es : List Entry) → IsBacked s → NodeKeeps r s es → IsClean r s es → IsBacked (run_local r s es)
keeps_backed_from r s [] backed keeps clean = backed
keeps_backed_from r s (e ∷ es) backed keeps clean =
    let h = keeps clean.0 in keeps_backed_from r (after r s e.event) es h.1 h.2 clean.1

pub keeps_backed : (r : Rules) (n k : ℕ) (es : List Entry) → NodeKeeps r (boot (roots n k) k) es → IsClean r (boot (roots n k) k) es
    → IsBacked (run_local r (boot (roots n k) k) es)
keeps_backed r n k es keeps clean = keeps_backed_from r (boot (roots n k) k) es (boot_backed n k) keeps clean

module _ (r : Rules) (k : ℕ) (es : List Entry) (legal : IsLegalLocal r (boot (roots r.localities k) k) es)
    (clean : IsClean r (boot (roots r.localities k) k) es) where
  abbrev here_then : Local
  here_then = run_local r (boot (roots r.localities k) k) es

  single_then : IsSingle here_then
  single_then = single_run r (boot (roots r.localities k) k) es (boot_single r.localities k) legal clean

  pub act_single : (a : Name) → present a here_then ≤ 1
  act_single a = omega (arith, single_then.acts a)

  pub act_drawn : (a : Name) → a.origin ≡ k → IsUndrawn here_then.serial a.serial → present a here_then ≡ 0
  act_drawn a home late =
      let h : a.origin ≡ here_then.here = home ∙ sym (here_stays r (boot (roots r.localities k) k) es) in
      omega (arith, single_then.acts a, undrawn_is a.origin a.serial here_then.here here_then.serial h late)

  pub object_single : (o : Id) → 16 ≤ o.kind → kept o here_then ≤ 1
  object_single o managed = omega (arith, single_then.objects o managed)

  pub object_drawn : (o : Id) → 16 ≤ o.kind → o.home ≡ k → IsUndrawn here_then.number o.number → kept o here_then ≡ 0
  object_drawn o managed home late =
      let h : o.home ≡ here_then.here = home ∙ sym (here_stays r (boot (roots r.localities k) k) es) in
      omega (arith, single_then.objects o managed, undrawn_is o.home o.number here_then.here here_then.number h late)

  pub local_stands : TargetsStand here_then
  local_stands = single_then.sane.stand

  pub local_dead : (o : Id) → IsDead o here_then → recorded o here_then ≡ 0
  local_dead o dead = single_then.sane.dead o dead
