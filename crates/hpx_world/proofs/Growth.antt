-- What the entries of one call do to the road, and to what went and came.
use Rattle.std.proofs.Common.{true, ℕ, List, [], ◌∷◌, ◌++◌, ◌≡◌, ◌<◌, refl, sym, ap, ◌∙◌, subst, append-nil, append_assoc}
use Rattle.std.specs.List.{list_any, AllByRecursion}
use Rattle.hpx_journal.specs.Bags.{Covers, minus}
use Rattle.hpx_journal.specs.Entries.{Rules, Frame, same_frame}
use Rattle.hpx_journal.specs.Whole.{IsCarried, sends, arrives, arrives_at, road_after}
use Rattle.hpx_journal.specs.Laws.{road_run, outs, ins, outs_by, entry_at}
use Rattle.hpx_journal.proofs.Alls.{all-map}
use Rattle.hpx_journal.proofs.Grow.{carried_append}
use Rattle.hpx_part.specs.Data.{Event, Entry, Out, In}
use Rattle.hpx_part.specs.Parts.{at_all}
use Rattle.hpx_node.specs.Changes.{Writes}
use Rattle.hpx_tables.specs.Tables.{Tables}
use Rattle.hpx_world.specs.Away.{IsInside, road_of}
use Rattle.hpx_world.proofs.Plain.{IsPlain, ArePlain}

-- an event of no frame
abbrev pub IsInner : Event → Type 0
IsInner (Out to bytes) = ⊥
IsInner (In bytes) = ⊥
IsInner _ = Unit {0}

abbrev pub AreInner : List Event → Type 0
AreInner es = AllByRecursion IsInner es

plain_one : (e : Event) → IsPlain e → IsInner e
plain_one (Out to bytes) h = h
plain_one (In bytes) h = h
plain_one _ h = tt

pub plain_inner : (es : List Event) → ArePlain es → AreInner es
plain_inner es h = all-map IsPlain IsInner plain_one es h

no_sends : (e : Event) → IsInner e → sends e ≡ []
no_sends (Out to bytes) h = absurd h
no_sends _ h = refl

no_arrivals : (k : ℕ) (e : Event) → IsInner e → arrives_at k e ≡ []
no_arrivals k (In bytes) h = absurd h
no_arrivals k _ h = refl

no_outs : (k : ℕ) (e : Event) → IsInner e → outs_by k e ≡ []
no_outs k (Out to bytes) h = absurd h
no_outs k _ h = refl

module _ (k : ℕ) where
  inner_road_after : (road : List Frame) (e : Event) → IsInner e → road_after road (entry_at k e) ≡ road
  inner_road_after road e h =
      ap (λ fs. fs ++ minus same_frame road (arrives_at k e)) (no_sends e h) ∙ ap (λ fs. minus same_frame road fs) (no_arrivals k e h)

  pub inner_carried : (r : Rules) (road : List Frame) (es : List Event) → k < r.localities → AreInner es → IsCarried r road (at_all k es)
  inner_carried r road [] h inner = tt
  inner_carried r road (e ∷ es) h inner = (
    h,
    subst (Covers same_frame road) (sym (no_arrivals k e inner.0)) tt,
    inner_carried r (road_after road (entry_at k e)) es h inner.1,
  )

  pub inner_road : (road : List Frame) (es : List Event) → AreInner es → road_run road (at_all k es) ≡ road
  inner_road road [] inner = refl
  inner_road road (e ∷ es) inner = ap (λ fs. road_run fs (at_all k es)) (inner_road_after road e inner.0) ∙ inner_road road es inner.1

  pub inner_outs : (es : List Event) → AreInner es → outs (at_all k es) ≡ []
  inner_outs [] inner = refl
  inner_outs (e ∷ es) inner = ap (λ xs. xs ++ outs (at_all k es)) (no_outs k e inner.0) ∙ inner_outs es inner.1

  pub inner_ins : (es : List Event) → AreInner es → ins (at_all k es) ≡ []
  inner_ins [] inner = refl
  inner_ins (e ∷ es) inner = ap (λ xs. xs ++ ins (at_all k es)) (no_arrivals k e inner.0) ∙ inner_ins es inner.1

road_append : (road : List Frame) (xs ys : List Entry) → road_run road (xs ++ ys) ≡ road_run (road_run road xs) ys
road_append road [] ys = refl
road_append road (x ∷ xs) ys = road_append (road_after road x) xs ys

outs_append : (xs ys : List Entry) → outs (xs ++ ys) ≡ outs xs ++ outs ys
outs_append [] ys = refl
outs_append (x ∷ xs) ys = ap (λ zs. outs_by x.at x.event ++ zs) (outs_append xs ys) ∙ sym (append_assoc (outs_by x.at x.event) (outs xs) (outs ys))

ins_append : (xs ys : List Entry) → ins (xs ++ ys) ≡ ins xs ++ ins ys
ins_append [] ys = refl
ins_append (x ∷ xs) ys = ap (λ zs. arrives x ++ zs) (ins_append xs ys) ∙ sym (append_assoc (arrives x) (ins xs) (ins ys))

module _ (t t' : Tables) (events : List Event) (es es' : List Entry) (w : Writes events t t' es es') where
  road_grows : road_of es' ≡ road_run (road_of es) (at_all t.here events)
  road_grows = ap (road_run []) w.grows ∙ road_append [] es (at_all t.here events)

  outs_grow : outs es' ≡ outs es ++ outs (at_all t.here events)
  outs_grow = ap outs w.grows ∙ outs_append es (at_all t.here events)

  ins_grow : ins es' ≡ ins es ++ ins (at_all t.here events)
  ins_grow = ap ins w.grows ∙ ins_append es (at_all t.here events)

  carried_grows : (r : Rules) → IsCarried r [] es → IsCarried r (road_of es) (at_all t.here events) → IsCarried r [] es'
  carried_grows r before more = subst (IsCarried r []) (sym w.grows) (carried_append r [] es (at_all t.here events) before more)

  -- no frame was sent or accepted
  pub inside_of : (r : Rules) → t.here < r.localities → AreInner events → IsInside r es es'
  inside_of r lt inner = record {
    carried = λ c. carried_grows r c (inner_carried t.here r (road_of es) events lt inner);
    road = road_grows ∙ inner_road t.here (road_of es) events inner;
    outs = outs_grow ∙ (ap (λ xs. outs es ++ xs) (inner_outs t.here events inner) ∙ append-nil (outs es));
    ins = ins_grow ∙ (ap (λ xs. ins es ++ xs) (inner_ins t.here events inner) ∙ append-nil (ins es));
  }

pub inside_none : (r : Rules) (es es' : List Entry) → es' ≡ es → IsInside r es es'
inside_none r es es' same =
    subst (IsInside r es) (sym same) (record { carried = λ c. c; road = refl; outs = refl; ins = refl })

-- one frame was sent, from k
pub record SendsOne (r : Rules) (k : ℕ) (frame : Frame) (es es' : List Entry) : Type 0 where
  pub carried : IsCarried r [] es → IsCarried r [] es'
  pub road : road_of es' ≡ frame ∷ road_of es
  pub outs : outs es' ≡ outs es ++ (k, frame) ∷ []
  pub ins : ins es' ≡ ins es

pub sends_of : (r : Rules) (t t' : Tables) (es es' : List Entry) (to : ℕ) (bytes : List ℕ) → t.here < r.localities
    → Writes (Out to bytes ∷ []) t t' es es' → SendsOne r t.here (to, bytes) es es'
sends_of r t t' es es' to bytes lt w = record {
  carried = λ c. carried_grows t t' (Out to bytes ∷ []) es es' w r c (lt, tt, tt);
  road = road_grows t t' (Out to bytes ∷ []) es es' w;
  outs = outs_grow t t' (Out to bytes ∷ []) es es' w;
  ins = ins_grow t t' (Out to bytes ∷ []) es es' w ∙ append-nil (ins es);
}

-- one frame was accepted
pub record AcceptsOne (r : Rules) (frame : Frame) (es es' : List Entry) : Type 0 where
  pub carried : list_any (same_frame frame) (road_of es) ≡ true → IsCarried r [] es → IsCarried r [] es'
  pub road : road_of es' ≡ minus same_frame (road_of es) (frame ∷ [])
  pub outs : outs es' ≡ outs es
  pub ins : ins es' ≡ ins es ++ frame ∷ []

pub accepts_of : (r : Rules) (t t' : Tables) (es es' : List Entry) (bytes : List ℕ) (more : List Event) → t.here < r.localities → AreInner more
    → Writes (In bytes ∷ more) t t' es es' → AcceptsOne r (t.here, bytes) es es'
accepts_of r t t' es es' bytes more lt inner w =
    let left = minus same_frame (road_of es) ((t.here, bytes) ∷ []) in
    record {
      carried = λ there c. carried_grows t t' (In bytes ∷ more) es es' w r c (lt, (there, tt), inner_carried t.here r left more lt inner);
      road = road_grows t t' (In bytes ∷ more) es es' w ∙ inner_road t.here left more inner;
      outs = outs_grow t t' (In bytes ∷ more) es es' w
          ∙ (ap (λ xs. outs es ++ xs) (inner_outs t.here more inner) ∙ append-nil (outs es));
      ins = ins_grow t t' (In bytes ∷ more) es es' w
          ∙ ap (λ xs. ins es ++ (t.here, bytes) ∷ xs) (inner_ins t.here more inner);
    }
