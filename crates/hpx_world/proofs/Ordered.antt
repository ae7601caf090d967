-- The lines of an audit go by home, and then by number.
use Rattle.std.proofs.Common.{ℕ, suc, List, [], ◌∷◌, ◌++◌, ◌≡◌, ◌≤◌, ◌+◌, Some, refl, sym, ap, ◌∙◌, arith, inl, inr, map, zero-add}
use Rattle.std.specs.Prelude.{flat_map}
use Rattle.std.specs.List.{slice_get, AllByRecursion}
use Rattle.hpx_agas.specs.Records.{Rises}
use Rattle.hpx_agas.specs.declared.record.Record.{Record}
use Rattle.hpx_journal.specs.Data.{Id}
use Rattle.hpx_tables.specs.Kept.{HasRecords}
use Rattle.hpx_tables.specs.Tables.{Tables}
use Rattle.hpx_tables.proofs.Alls.{all_append, all_at}
use Rattle.hpx_world.specs.Audit.{audit_line, lines_at, audit_lines, HaveRecords, IsBefore, AreOrdered}
use Rattle.hpx_world.specs.declared.audit.AuditLine.{AuditLine}
use Rattle.hpx_world.proofs.Audited.{all_each, all_map, all_flat}
use Rattle.hpx_world.proofs.Found.{above, rises_found}

-- all lines of the first list stand before all of the second
ordered_append : (xs ys : List AuditLine) → AreOrdered xs → AreOrdered ys → AllByRecursion (λ x. AllByRecursion (IsBefore x) ys) xs
    → AreOrdered (xs ++ ys)
ordered_append [] ys a b c = b
ordered_append (x ∷ xs) ys a b c = (all_append (IsBefore x) xs ys a.0 c.0, ordered_append xs ys a.1 b c.1)

-- a record is of an object that was born here
own_home : (t : Tables) → HasRecords t → (i : ℕ) (x : Record) → slice_get t.records i ≡ Some x → x.gid.home ≡ t.here
own_home t own i x at = ap (λ (o : Id). o.home) (own.good x.gid x (rises_found 0 t.records i x own.rises at)).id

module _ (nodes : List Tables) where
  -- the lines of one home
  ordered_one : (home low : ℕ) (rs : List Record) → Rises low rs → ((i : ℕ) (x : Record) → slice_get rs i ≡ Some x → x.gid.home ≡ home)
      → AreOrdered (map (audit_line nodes) rs)
  ordered_one home low [] rises own = tt
  ordered_one home low (x ∷ xs) rises own = (
    all_map (IsBefore (audit_line nodes x)) (audit_line nodes) xs (all_each (λ y. IsBefore (audit_line nodes x) (audit_line nodes y)) xs (λ i y at.
        inr (own 0 x refl ∙ sym (own (suc i) y at), above x.gid.number xs i y rises.1 at))),
    ordered_one home x.gid.number xs rises.1 (λ i y at. own (suc i) y at),
  )

  -- nodes whose places begin at this number
  abbrev AreFrom : ℕ → List Tables → Type 0
  AreFrom start ts = (i : ℕ) (t : Tables) → slice_get ts i ≡ Some t → HasRecords t × (t.here ≡ start + i)

  homes_from : (start : ℕ) (ts : List Tables) → AreFrom start ts → AllByRecursion (λ (x : AuditLine). start ≤ x.gid.home) (flat_map (lines_at nodes) ts)
  homes_from start ts from = all_flat (λ (x : AuditLine). start ≤ x.gid.home) (lines_at nodes) ts
      (all_each (λ t. AllByRecursion (λ (x : AuditLine). start ≤ x.gid.home) (lines_at nodes t)) ts (λ i t at.
      all_map (λ (x : AuditLine). start ≤ x.gid.home) (audit_line nodes) t.records (all_each (λ (x : Record). start ≤ x.gid.home) t.records (λ j x there.
      omega (arith, own_home t (from i t at).0 j x there, (from i t at).1)))))

  ordered_from : (start : ℕ) (ts : List Tables) → AreFrom start ts → AreOrdered (flat_map (lines_at nodes) ts)
  ordered_from start [] from = tt
  ordered_from start (t ∷ ts) from =
      let first = from 0 t refl in
      let others : AreFrom (suc start) ts = λ i u at. ((from (suc i) u at).0, omega (arith, (from (suc i) u at).1)) in
      let later = flat_map (lines_at nodes) ts in
      ordered_append (lines_at nodes t) later (ordered_one t.here 0 t.records first.0.rises (λ i x at. own_home t first.0 i x at))
      (ordered_from (suc start) ts others)
      (all_map (λ x. AllByRecursion (IsBefore x) later) (audit_line nodes) t.records
      (all_each (λ x. AllByRecursion (IsBefore (audit_line nodes x)) later) t.records (λ i x at.
      all_each (IsBefore (audit_line nodes x)) later (λ j y there.
      inl (omega (arith, first.1, own_home t first.0 i x at, all_at (λ (z : AuditLine). suc start ≤ z.gid.home) later j y (homes_from (suc start) ts others) there))))))

pub ordered : (nodes : List Tables) → HaveRecords nodes → ((k : ℕ) (t : Tables) → slice_get nodes k ≡ Some t → t.here ≡ k)
    → AreOrdered (audit_lines nodes)
ordered nodes own places = ordered_from nodes 0 nodes (λ i t at. (all_at HasRecords nodes i t own at, places i t at ∙ sym (zero-add i)))
