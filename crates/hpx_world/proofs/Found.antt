-- A live record is found by its own id, and its line tells of it.
use Rattle.std.proofs.Common.{ℕ, zero, suc, List, [], ◌∷◌, ◌≡◌, ◌<◌, Some, None, Option, refl, sym, ap, ◌∙◌, subst, arith}
use Rattle.std.specs.Prelude.{option_map, map, take, ◌++◌, ◌-◌, length}
use Rattle.std.specs.Option.{option_map_or}
use Rattle.std.specs.List.{slice_get}
use Rattle.hpx_agas.specs.Records.{find_record, Rises}
use Rattle.hpx_agas.specs.declared.record.Record.{Record}
use Rattle.hpx_agas.proofs.RecordsLemmas.{apart, same_self}
use Rattle.hpx_journal.specs.Data.{Id}
use Rattle.hpx_tables.specs.Kept.{HasRecords, record_here, count_here, place_here}
use Rattle.hpx_tables.specs.Tables.{Tables}
use Rattle.hpx_world.specs.Audit.{held_in_all, audit_line}
use Rattle.hpx_world.specs.declared.audit.AuditLine.{AuditLine}

pub above : (low : ℕ) (rs : List Record) (i : ℕ) (r : Record) → Rises low rs → slice_get rs i ≡ Some r → low < r.gid.number
above low [] i r h at = absurd (cc)
above low (x ∷ xs) zero r h at = let e : x ≡ r = cc in subst (λ (y : Record). low < y.gid.number) e h.0
above low (x ∷ xs) (suc i) r h at = omega (arith, h.0, above x.gid.number xs i r h.1 at)

pub rises_found : (low : ℕ) (rs : List Record) (i : ℕ) (r : Record) → Rises low rs → slice_get rs i ≡ Some r → find_record r.gid rs ≡ Some r
rises_found low [] i r h at = absurd (cc)
rises_found low (x ∷ xs) zero r h at =
    let e : x ≡ r = cc in
    subst (λ (y : Record). find_record y.gid (x ∷ xs) ≡ Some y) e (rw (same_self x.gid) refl)
rises_found low (x ∷ xs) (suc i) r h at =
    rw (apart r.gid x.gid (λ e. omega (arith, above x.gid.number xs i r h.1 at, e))) (rises_found x.gid.number xs i r h.1 at)

-- a record whose id was told
pub record IsTold (t : Tables) (i : ℕ) (o : Id) : Type 0 where
  pub live : Record
  pub there : slice_get t.records i ≡ Some live
  pub id : live.gid ≡ o
  pub found : record_here t o ≡ Some live

told_by : (t : Tables) (i : ℕ) (o : Id) (slot : Option Record) → HasRecords t → slice_get t.records i ≡ slot
    → option_map (λ (r : Record). r.gid) slot ≡ Some o → IsTold t i o
told_by t i o None h at e = absurd (cc)
told_by t i o (Some r) h at e =
    let id : r.gid ≡ o = cc in
    record {
      live = r;
      there = at;
      id = id;
      found = subst (λ p. record_here t p ≡ Some r) id (rises_found 0 t.records i r h.rises at);
    }

pub told : (t : Tables) (i : ℕ) (o : Id) → HasRecords t → option_map (λ (r : Record). r.gid) (slice_get t.records i) ≡ Some o → IsTold t i o
told t i o h e = told_by t i o (slice_get t.records i) h refl e

-- its line
module _ (nodes : List Tables) where
  abbrev line_with : Id → ℕ → ℕ → AuditLine
  line_with o count at = record { gid = o; recorded = count; held = held_in_all o nodes; flight = count - held_in_all o nodes; at = at }

  same_line : (r : Record) (o : Id) (count at : ℕ) → r.gid ≡ o → r.count ≡ count → r.place ≡ at
      → ◌≡◌ {A = Option AuditLine} (Some (line_with o count at)) (Some (audit_line nodes r))
  same_line r o count at id c p =
      subst (λ a. ◌≡◌ {A = Option AuditLine} (Some (line_with o count a)) (Some (audit_line nodes r))) p
      (subst (λ n. ◌≡◌ {A = Option AuditLine} (Some (line_with o n r.place)) (Some (audit_line nodes r))) c
      (subst (λ x. ◌≡◌ {A = Option AuditLine} (Some (line_with x r.count r.place)) (Some (audit_line nodes r))) id refl))

  pub told_line : (t : Tables) (i : ℕ) (o : Id) (at : ℕ) → HasRecords t
      → option_map (λ (r : Record). r.gid) (slice_get t.records i) ≡ Some o → place_here t o ≡ Some at
      → ◌≡◌ {A = Option AuditLine} (Some (line_with o (count_here t o) at)) (option_map (audit_line nodes) (slice_get t.records i))
  told_line t i o at h e place =
      let x = told t i o h e in
      let count : count_here t o ≡ x.live.count = ap (λ s. option_map_or (λ (r : Record). r.count) s 0) x.found in
      let stands : x.live.place ≡ at = let p : Some x.live.place ≡ Some at = sym (ap (option_map (λ (r : Record). r.place)) x.found) ∙ place in cc in
      same_line x.live o (count_here t o) at x.id (sym count) stands ∙ sym (ap (option_map (audit_line nodes)) x.there)

-- it says where it is
pub told_place : (t : Tables) (i : ℕ) (o : Id) → HasRecords t → option_map (λ (r : Record). r.gid) (slice_get t.records i) ≡ Some o
    → place_here t o ≡ None → ⊥
told_place t i o h e none =
    let x = told t i o h e in
    let p : ◌≡◌ {A = Option ℕ} (Some x.live.place) None = sym (ap (option_map (λ (r : Record). r.place)) x.found) ∙ none in cc

-- one line more
pub lines_grow : {X Y : Type 0} (f : X → Y) (xs : List X) (i : ℕ) (y : Y) → option_map f (slice_get xs i) ≡ Some y
    → map f (take (suc i) xs) ≡ map f (take i xs) ++ y ∷ []
lines_grow f [] i y e = absurd (cc)
lines_grow f (x ∷ xs) zero y e = let t : f x ≡ y = cc in ap (λ z. z ∷ []) t
lines_grow f (x ∷ xs) (suc i) y e = ap (λ ys. f x ∷ ys) (lines_grow f xs i y e)

-- there is one
pub line_there : {X Y : Type 0} (f : X → Y) (xs : List X) (i : ℕ) → i < length xs → option_map f (slice_get xs i) ≡ None → ⊥
line_there f [] i lt e = omega (arith, lt)
line_there f (x ∷ xs) zero lt e = let t : ◌≡◌ (Some (f x)) None = e in cc
line_there f (x ∷ xs) (suc i) lt e = line_there f xs i (omega (arith, lt)) e
