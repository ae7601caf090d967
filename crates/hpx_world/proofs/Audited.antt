-- What the lines of an audit tell of the space that the journal leads to.
use Rattle.std.specs.Result.{IfOk, OnOk}
use Rattle.std.proofs.Common.{Result, Ok, Err, ℕ, suc, Bool, true, false, cond, List, [], ◌∷◌, ◌≡◌, ◌≢◌, ◌<◌, ◌≤◌, ◌+◌, ◌^◌, Some, None, Option, length, map, refl, sym, ap, ◌∙◌, subst, arith, inl, inr, zero-add, append-nil}
use Rattle.std.specs.Prelude.{flat_map, not, ◌&&◌, ◌==◌}
use Rattle.std.specs.Option.{option_map_or}
use Rattle.std.specs.List.{slice_get, sum_by, count_by, find, AllByRecursion}
use Rattle.std.proofs.Math.Nat.{min-eq_right}
use Rattle.std.proofs.lemmas.Bool.{cases_Bool, cases_eq, cases_lt, eq-eqb, ne_eqb}
use Rattle.std.proofs.lemmas.List.Sums.{sum_by-cons, sum_by-append}
use Rattle.hpx_value.specs.Ids.{same_object}
use Rattle.hpx_value.specs.Profiles.{IsValid}
use Rattle.hpx_value.specs.declared.profile.Profile.{Profile}
use Rattle.hpx_agas.specs.Records.{find_record, Rises}
use Rattle.hpx_agas.specs.declared.record.Record.{Record}
use Rattle.hpx_agas.proofs.RecordsLemmas.{same_parts, find_same, apart}
use Rattle.hpx_journal.specs.Bags.{total}
use Rattle.hpx_journal.specs.Data.{Id}
use Rattle.hpx_journal.specs.Entries.{Rules, Frame}
use Rattle.hpx_journal.specs.Laws.{HasGrammar}
use Rattle.hpx_journal.specs.Local.{recorded, count_in, is_recorded}
use Rattle.hpx_journal.specs.Tokens.{worth}
use Rattle.hpx_part.specs.Parts.{at_boot}
use Rattle.hpx_journal.specs.Whole.{Space, run_local, IsLegal, IsCarried, replayed, part, road_after, credit_sum, recorded_in}
use Rattle.hpx_journal.proofs.Bags.{total-same, total-add, total-zero, total-change}
use Rattle.hpx_journal.proofs.Grow.{run_part}
use Rattle.hpx_journal.proofs.Joined.{part_other}
use Rattle.hpx_journal.proofs.Start.{first, legal_sums}
use Rattle.hpx_part.specs.Data.{Entry, Token}
use Rattle.hpx_part.proofs.Keyed.{slice_get_less, counts_of, counts_true, counts_false}
use Rattle.hpx_tables.specs.Kept.{HasRecords, held_here, held_worth, owed_worth}
use Rattle.hpx_steps.specs.Turn.{counted}
use Rattle.hpx_steps.specs.Rest.{rules_of}
use Rattle.hpx_tables.specs.Tables.{Tables}
use Rattle.hpx_tables.proofs.Alls.{all_append, all_at}
use Rattle.hpx_node.proofs.Numbers.{held_shown}
use Rattle.hpx_world.specs.Audit.{held_in_all, audit_line, lines_at, audit_lines, HaveRecords, held_at_all, away_of, Tells, IsAudit}
use Rattle.hpx_world.specs.Sound.{Meaning, IsSound}
use Rattle.hpx_world.specs.declared.audit.AuditLine.{AuditLine}
use Rattle.hpx_world.proofs.Counts.{sum_total}
use Rattle.hpx_world.proofs.Found.{rises_found}
use Rattle.hpx_world.proofs.Rested.{shown_at}
use Rattle.hpx_world.proofs.Sound.{sound_legal, told_all}
use Rattle.hpx_world.proofs.Landings.{placed_so}

-- ---- a token is held or owed

either : (s owed : Bool) (v : ℕ) → ◌≡◌ {A = ℕ} (cond s v 0) (cond (s && not owed) v 0 + cond (s && owed) v 0)
either true true v = sym (zero-add v)
either true false v = omega arith
either false true v = refl
either false false v = refl

pub worth_splits : (o : Id) (ks : List Token) → sum_by (worth o) ks ≡ sum_by (held_worth o) ks + sum_by (owed_worth o) ks
worth_splits o [] = refl
worth_splits o (k ∷ ks) = omega (
  arith,
  sum_by-cons (worth o) k ks,
  sum_by-cons (held_worth o) k ks,
  sum_by-cons (owed_worth o) k ks,
  either (same_object o k.object) k.owed (2 ^ k.log),
  worth_splits o ks,
)

-- all credit of an object: what is held, and what is away
credit_splits : (r : Rules) (o : Id) (w : Space) → credit_sum r o w ≡ held_at_all r o w + away_of r o w
credit_splits r o w = omega (
  arith,
  total-same r.localities (λ k. sum_by (worth o) (w.places k).tokens)
      (λ k. sum_by (held_worth o) (w.places k).tokens + sum_by (owed_worth o) (w.places k).tokens) (λ k lt. worth_splits o (w.places k).tokens),
  total-add r.localities (λ k. sum_by (held_worth o) (w.places k).tokens) (λ k. sum_by (owed_worth o) (w.places k).tokens),
)

-- ---- records

pub count_in_records : (o : Id) (rs : List Record) → count_in (find (is_recorded o) (map counted rs)) ≡ option_map_or (λ (x : Record). x.count) (find_record o rs) 0
count_in_records o [] = refl
count_in_records o (x ∷ xs) = elim (cases_Bool (same_object o x.gid)) [
  | inl t ↦ rw t refl
  | inr f ↦ rw f (count_in_records o xs)
]

count_none : (o : Id) (rs : List Record) → find_record o rs ≡ None → count_by (λ (x : Record). same_object o x.gid) rs ≡ 0
count_none o [] h = refl
count_none o (x ∷ xs) h = elim (cases_Bool (same_object o x.gid)) [
  | inl t ↦ let e : ◌≡◌ {A = Option Record} (Some x) None = rw t at h in cc
  | inr f ↦ omega (
    arith,
    sum_by-cons (counts_of (λ (y : Record). same_object o y.gid)) x xs,
    counts_false (λ (y : Record). same_object o y.gid) x f,
    count_none o xs (rw f at h),
  )
]

-- what is found is above where the numbers begin
found_above : (o : Id) (low : ℕ) (rs : List Record) (r : Record) → Rises low rs → find_record o rs ≡ Some r → low < r.gid.number
found_above o low [] r h f = cc
found_above o low (x ∷ xs) r h f = elim (cases_Bool (same_object o x.gid)) [
  | inl t ↦
      let e : Some x ≡ Some r = rw t at f in
      let same : x ≡ r = cc in
      omega (arith, h.0, ap (λ (y : Record). y.gid.number) same)
  | inr m ↦ omega (arith, h.0, found_above o x.gid.number xs r h.1 (rw m at f))
]

no_second : (o : Id) (low : ℕ) (rs : List Record) → Rises low rs → o.number ≤ low → find_record o rs ≡ None
no_second o low [] h le = refl
no_second o low (x ∷ xs) h le = rw (apart o x.gid (λ e. omega (arith, h.0, e))) (no_second o x.gid.number xs h.1 (omega (arith, h.0)))

count_some : (o : Id) (low : ℕ) (rs : List Record) (r : Record) → Rises low rs → find_record o rs ≡ Some r
    → count_by (λ (x : Record). same_object o x.gid) rs ≡ 1
count_some o low [] r h f = cc
count_some o low (x ∷ xs) r h f = elim (cases_Bool (same_object o x.gid)) [
  | inl t ↦ omega (
    arith,
    sum_by-cons (counts_of (λ (y : Record). same_object o y.gid)) x xs,
    counts_true (λ (y : Record). same_object o y.gid) x t,
    count_none o xs (no_second o x.gid.number xs h.1 (omega (arith, (same_parts o x.gid t).2))),
  )
  | inr m ↦ omega (
    arith,
    sum_by-cons (counts_of (λ (y : Record). same_object o y.gid)) x xs,
    counts_false (λ (y : Record). same_object o y.gid) x m,
    count_some o x.gid.number xs r h.1 (rw m at f),
  )
]

-- ---- lists of lines

pub all_each : {X : Type 0} (P : X → Type 0) (xs : List X) → ((i : ℕ) (x : X) → slice_get xs i ≡ Some x → P x) → AllByRecursion P xs
all_each P [] h = tt
all_each P (x ∷ xs) h = (h 0 x refl, all_each P xs (λ i y at. h (suc i) y at))

pub all_map : {X Y : Type 0} (P : Y → Type 0) (f : X → Y) (xs : List X) → AllByRecursion (λ x. P (f x)) xs → AllByRecursion P (map f xs)
all_map P f [] h = tt
all_map P f (x ∷ xs) h = (h.0, all_map P f xs h.1)

pub all_flat : {X Y : Type 0} (P : Y → Type 0) (f : X → List Y) (xs : List X) → AllByRecursion (λ x. AllByRecursion P (f x)) xs → AllByRecursion P (flat_map f xs)
all_flat P f [] h = tt
all_flat P f (x ∷ xs) h = all_append P (f x) (flat_map f xs) h.0 (all_flat P f xs h.1)

count_flat : {X Y : Type 0} (p : Y → Bool) (f : X → List Y) (xs : List X) → count_by p (flat_map f xs) ≡ sum_by (λ x. count_by p (f x)) xs
count_flat p f [] = refl
count_flat p f (x ∷ xs) = omega (
  arith,
  sum_by-append (counts_of p) (f x) (flat_map f xs),
  count_flat p f xs,
  sum_by-cons (λ y. count_by p (f y)) x xs,
)

count_lines : (nodes : List Tables) (o : Id) (rs : List Record)
    → count_by (λ (x : AuditLine). same_object o x.gid) (map (audit_line nodes) rs) ≡ count_by (λ (x : Record). same_object o x.gid) rs
count_lines nodes o [] = refl
count_lines nodes o (x ∷ xs) = omega (
  arith,
  sum_by-cons (counts_of (λ (y : AuditLine). same_object o y.gid)) (audit_line nodes x) (map (audit_line nodes) xs),
  sum_by-cons (counts_of (λ (y : Record). same_object o y.gid)) x xs,
  count_lines nodes o xs,
)

-- 1 at one place alone
total_one : (n k : ℕ) (f : ℕ → ℕ) → k < n → f k ≡ 1 → ((j : ℕ) → k ≢ j → f j ≡ 0) → total n f ≡ 1
total_one n k f lt one others = omega (
  arith,
  total-change n (λ j. 0) f k lt others,
  total-zero n (λ j. 0) (λ j i. refl),
  one,
)

part_none : (r : Rules) (road : List Frame) (k : ℕ) (es : List Entry) → IsCarried r road es → r.localities ≤ k → part k es ≡ []
part_none r road k [] h le = refl
part_none r road k (e ∷ es) h le = part_other k e es (λ same. omega (arith, h.0, same)) ∙ part_none r (road_after road e) k es h.2 le

-- ---- all localities

module _ (act_of : Meaning) (profile : Profile) (nodes : List Tables) (es : List Entry) (sound : IsSound act_of profile nodes es)
    (grammar : HasGrammar (rules_of act_of (length nodes) profile)) (carried : IsCarried (rules_of act_of (length nodes) profile) [] es)
    (valid : IsValid profile) (own : HaveRecords nodes) where
  abbrev r : Rules
  r = rules_of act_of (length nodes) profile

  abbrev w : Space
  w = replayed r es

  legal : IsLegal r es
  legal = sound_legal act_of profile nodes es sound carried

  held_all : (o : Id) → sum_by (λ t. held_here t o) nodes ≡ held_at_all r o w
  held_all o = sum_total nodes (λ t. held_here t o) (λ k. sum_by (held_worth o) (w.places k).tokens)
      (λ k t at. sym (held_shown t (w.places k) o (told_all act_of profile nodes es sound k t at).stands.tidy
      (shown_at act_of profile nodes es sound grammar carried k t (slice_get_less nodes k t at) at)))

  recorded_at : (k : ℕ) (t : Tables) → slice_get nodes k ≡ Some t → (o : Id) → o.home ≡ t.here
      → recorded o (w.places k) ≡ option_map_or (λ (x : Record). x.count) (find_record o t.records) 0
  recorded_at k t at o home =
      (shown_at act_of profile nodes es sound grammar carried k t (slice_get_less nodes k t at) at).counts.live o home
      ∙ count_in_records o t.records

  -- a live record
  module _ (k : ℕ) (t : Tables) (at : slice_get nodes k ≡ Some t) (i : ℕ) (x : Record) (there : slice_get t.records i ≡ Some x) where
    records : HasRecords t
    records = all_at HasRecords nodes k t own at

    found : find_record x.gid t.records ≡ Some x
    found = rises_found 0 t.records i x records.rises there

    home : x.gid.home ≡ t.here
    home = ap (λ (o : Id). o.home) (records.good x.gid x found).id

    count_is : x.count ≡ recorded_in x.gid w
    count_is =
        sym (ap (λ s. option_map_or (λ (y : Record). y.count) s 0) found)
        ∙ (sym (recorded_at k t at x.gid home) ∙ ap (λ j. recorded x.gid (w.places j)) (sym (home ∙ (sound.stand k t at).here)))

    sums : held_at_all r x.gid w + away_of r x.gid w ≡ x.count
    sums = sym (credit_splits r x.gid w) ∙ (legal_sums r es [] (subst (IsLegal r) (sym (append-nil es)) legal) x.gid ∙ sym count_is)

    most : x.count ≤ 2 ^ 100
    most = omega (arith, (records.good x.gid x found).most, ap (λ (p : Profile). p.credit_limit) (sound.stand k t at).tuned, valid.limit_most)

    held_is : held_in_all x.gid nodes ≡ held_at_all r x.gid w
    held_is = min-eq_right (omega (arith, held_all x.gid, sums, most)) ∙ held_all x.gid

    tells_one : Tells r es (audit_line nodes x)
    tells_one = record {
      some = (records.good x.gid x found).least;
      recorded_is = count_is;
      held_is = held_is;
      flight_is = omega (arith, held_is, sums);
      at_is = elim (placed_so act_of profile nodes es sound carried k t at x.gid x found) [
        | inl here ↦ inl (here ∙ sym home)
        | inr landed ↦ inr landed
      ];
    }

  tells_all : AllByRecursion (Tells r es) (audit_lines nodes)
  tells_all = all_flat (Tells r es) (lines_at nodes) nodes (all_each (λ t. AllByRecursion (Tells r es) (lines_at nodes t)) nodes (λ k t at.
      all_map (Tells r es) (audit_line nodes) t.records (all_each (λ x. Tells r es (audit_line nodes x)) t.records (λ i x there. tells_one k t at i x there))))

  -- ---- each object once

  module _ (o : Id) (some : 1 ≤ recorded_in o w) where
    near : o.home < length nodes
    near = elim (cases_lt o.home (length nodes)) [
      | inl lt ↦ lt
      | inr ge ↦ absurd (omega (arith, some, nothing ge))
    ]
      where
        nothing : length nodes ≤ o.home → recorded_in o w ≡ 0
        nothing ge = ap (recorded o) (run_part r (first r) es o.home ∙ ap (λ p. run_local r (at_boot r o.home) p) (part_none r [] o.home es carried ge))

    lines_where : (k : ℕ) (t : Tables) → slice_get nodes k ≡ Some t
        → count_by (λ (x : AuditLine). same_object o x.gid) (lines_at nodes t) ≡ cond (o.home == k) 1 0
    lines_where k t at = count_lines nodes o t.records ∙ elim (cases_eq o.home k) [
      | inl same ↦ rw (eq-eqb o.home k same) (here same (find_record o t.records) refl)
      | inr other ↦ rw (ne_eqb o.home k other) (elsewhere other (find_record o t.records) refl)
    ]
      where
        records_at : HasRecords t
        records_at = all_at HasRecords nodes k t own at

        here : o.home ≡ k → (slot : Option Record) → find_record o t.records ≡ slot → count_by (λ (x : Record). same_object o x.gid) t.records ≡ 1
        here same (Some x) f = count_some o 0 t.records x records_at.rises f
        here same None f = absurd (omega (
          arith,
          some,
          ap (λ j. recorded o (w.places j)) same,
          recorded_at k t at o (same ∙ sym (sound.stand k t at).here),
          ap (λ s. option_map_or (λ (y : Record). y.count) s 0) f,
        ))

        elsewhere : o.home ≢ k → (slot : Option Record) → find_record o t.records ≡ slot → count_by (λ (x : Record). same_object o x.gid) t.records ≡ 0
        elsewhere other None f = count_none o t.records f
        elsewhere other (Some x) f =
            let is = same_parts o x.gid (find_same o t.records x f) in
            absurd (other (is.0 ∙ (ap (λ (y : Id). y.home) (records_at.good o x f).id ∙ (sound.stand k t at).here)))

    one_line : count_by (λ (x : AuditLine). same_object o x.gid) (audit_lines nodes) ≡ 1
    one_line =
        count_flat (λ (x : AuditLine). same_object o x.gid) (lines_at nodes) nodes
        ∙ (sum_total nodes (λ t. count_by (λ (x : AuditLine). same_object o x.gid) (lines_at nodes t)) (λ k. cond (o.home == k) 1 0) lines_where
        ∙ total_one (length nodes) o.home (λ k. cond (o.home == k) 1 0) near (ap (λ b. cond b 1 0) (eq-eqb o.home o.home refl))
        (λ j away. ap (λ b. cond b 1 0) (ne_eqb o.home j away)))

  pub audited : IsAudit r es (audit_lines nodes)
  audited = record { tell = tells_all; each = λ o some. one_line o some }

-- of an answer
pub audited_ok : {E : Type 0} (answer : Result (List AuditLine) E) (P : Type 0) (Q : List AuditLine → Type 0) (lines : List AuditLine)
    → IfOk answer (λ ls. ls ≡ lines) → OnOk answer P → (P → Q lines) → IfOk answer Q
audited_ok (Ok ls) P Q lines is own h = subst Q (sym is) (h own)
audited_ok (Err e) P Q lines is own h = is
