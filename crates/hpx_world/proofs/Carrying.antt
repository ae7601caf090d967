-- What calls do to what is away.
use Rattle.std.proofs.Common.{true, ℕ, List, [], ◌∷◌, ◌++◌, ◌≡◌, Some, None, Option, refl, sym, ap, ◌∙◌, subst, arith, append-nil}
use Rattle.std.specs.List.{count_by, list_any}
use Rattle.std.proofs.lemmas.List.Sums.{sum_by-cons, sum_by-append}
use Rattle.hpx_journal.specs.Entries.{Frame, Rules, same_frame}
use Rattle.hpx_journal.specs.Laws.{ins}
use Rattle.hpx_journal.proofs.Bags.{sum_by-without}
use Rattle.hpx_journal.proofs.Grow.{flight_on_road}
use Rattle.hpx_journal.proofs.Same.{same_frame-true, same_frame-refl}
use Rattle.hpx_part.specs.Data.{Entry}
use Rattle.hpx_part.proofs.Keyed.{counts_of, counts_true, count_middle}
use Rattle.hpx_ports.specs.Told.{followed}
use Rattle.hpx_ports.specs.Frames.{Delivers, events_of}
use Rattle.hpx_ports.specs.declared.fabric.Wire.{Wire}
use Rattle.hpx_ports.specs.declared.fabric.Wire.TheVariants.{Sent, Delivered}
use Rattle.hpx_world.specs.Away.{listed, IsCarrying, IsInside, Fetches, road_of, sent_in, arrived_in}
use Rattle.hpx_world.proofs.Growth.{SendsOne, AcceptsOne, inside_none}

sent_append : (xs ys : List Wire) → sent_in (xs ++ ys) ≡ sent_in xs ++ sent_in ys
sent_append [] ys = refl
sent_append (Sent from to bytes ∷ xs) ys = ap (λ zs. (from, (to, bytes)) ∷ zs) (sent_append xs ys)
sent_append (Delivered to bytes ∷ xs) ys = sent_append xs ys

arrived_append : (xs ys : List Wire) → arrived_in (xs ++ ys) ≡ arrived_in xs ++ arrived_in ys
arrived_append [] ys = refl
arrived_append (Sent from to bytes ∷ xs) ys = arrived_append xs ys
arrived_append (Delivered to bytes ∷ xs) ys = ap (λ zs. (to, bytes) ∷ zs) (arrived_append xs ys)

module _ (r : Rules) where
  -- nothing goes or comes
  pub carrying_same : (h h' : Option Frame) (fl fl' : Option (List Frame)) (tr tr' : Option (List Wire)) (es es' : List Entry)
      → h' ≡ h → fl' ≡ fl → tr' ≡ tr → IsInside r es es' → IsCarrying r h fl tr es → IsCarrying r h' fl' tr' es'
  carrying_same h h' fl fl' tr tr' es es' hand flight trace inside c = record {
    frames = c.frames;
    wires = c.wires;
    flight_is = flight ∙ c.flight_is;
    trace_is = trace ∙ c.trace_is;
    carried = inside.carried c.carried;
    bag = λ x. ap (count_by (same_frame x)) inside.road ∙ (c.bag x ∙ ap (λ o. count_by (same_frame x) (listed o ++ c.frames)) (sym hand));
    sent = c.sent ∙ sym inside.outs;
    arrived = c.arrived ∙ (ap (λ xs. xs ++ listed h) (sym inside.ins) ∙ ap (λ o. ins es' ++ listed o) (sym hand));
  }

  -- a frame is sent
  pub carrying_sent : (h : Option Frame) (fl fl' : Option (List Frame)) (tr tr' : Option (List Wire)) (es es' : List Entry) (k to : ℕ) (bytes : List ℕ)
      → fl' ≡ followed fl ((to, bytes) ∷ []) → tr' ≡ followed tr (Sent k to bytes ∷ [])
      → SendsOne r k (to, bytes) es es' → IsCarrying r h fl tr es → IsCarrying r h fl' tr' es'
  carrying_sent h fl fl' tr tr' es es' k to bytes flight trace one c = record {
    frames = c.frames ++ (to, bytes) ∷ [];
    wires = c.wires ++ Sent k to bytes ∷ [];
    flight_is = flight ∙ ap (λ o. followed o ((to, bytes) ∷ [])) c.flight_is;
    trace_is = trace ∙ ap (λ o. followed o (Sent k to bytes ∷ [])) c.trace_is;
    carried = one.carried c.carried;
    bag = λ x. ap (count_by (same_frame x)) one.road ∙ omega (
      arith,
      c.bag x,
      sum_by-cons (counts_of (same_frame x)) (to, bytes) (road_of es),
      sum_by-append (counts_of (same_frame x)) (listed h) c.frames,
      sum_by-append (counts_of (same_frame x)) (listed h) (c.frames ++ (to, bytes) ∷ []),
      sum_by-append (counts_of (same_frame x)) c.frames ((to, bytes) ∷ []),
      sum_by-cons (counts_of (same_frame x)) (to, bytes) [],
    );
    sent = sent_append c.wires (Sent k to bytes ∷ []) ∙ (ap (λ xs. xs ++ (k, (to, bytes)) ∷ []) c.sent ∙ sym one.outs);
    arrived = arrived_append c.wires (Sent k to bytes ∷ []) ∙ (append-nil (arrived_in c.wires) ∙ (c.arrived ∙ ap (λ xs. xs ++ listed h) (sym one.ins)));
  }

  -- what is delivered comes into the hand
  carrying_filled : (o : Option Frame) (fl fl' : Option (List Frame)) (tr tr' : Option (List Wire)) (es : List Entry)
      → IsCarrying r None fl tr es → Delivers fl fl' o → tr' ≡ followed tr (events_of o) → IsCarrying r o fl' tr' es
  carrying_filled None fl fl' tr tr' es c d trace =
      let e = subst (λ f. Delivers f fl' None) c.flight_is d in
      record {
        frames = [];
        wires = c.wires;
        flight_is = e.1;
        trace_is = trace ∙ (ap (λ t. followed t []) c.trace_is ∙ ap (λ xs. Some xs) (append-nil c.wires));
        carried = c.carried;
        bag = λ x. c.bag x ∙ ap (count_by (same_frame x)) e.0;
        sent = c.sent;
        arrived = c.arrived;
      }
  carrying_filled (Some frame) fl fl' tr tr' es c d trace =
      let e = subst (λ f. Delivers f fl' (Some frame)) c.flight_is d in
      record {
        frames = e.front ++ e.back;
        wires = c.wires ++ Delivered frame.0 frame.1 ∷ [];
        flight_is = e.after;
        trace_is = trace ∙ ap (λ t. followed t (Delivered frame.0 frame.1 ∷ [])) c.trace_is;
        carried = c.carried;
        bag = λ x. c.bag x ∙ (ap (count_by (same_frame x)) e.before ∙ omega (
          arith,
          count_middle (same_frame x) e.front frame e.back,
          sum_by-cons (counts_of (same_frame x)) frame (e.front ++ e.back),
        ));
        sent = sent_append c.wires (Delivered frame.0 frame.1 ∷ []) ∙ (append-nil (sent_in c.wires) ∙ c.sent);
        arrived = arrived_append c.wires (Delivered frame.0 frame.1 ∷ [])
            ∙ (ap (λ xs. xs ++ frame ∷ []) (c.arrived ∙ append-nil (ins es)));
      }

  -- what is fetched is in hand
  pub carrying_fetched : (h o : Option Frame) (fl fl' : Option (List Frame)) (tr tr' : Option (List Wire)) (es : List Entry)
      → Fetches h fl fl' tr tr' o → IsCarrying r h fl tr es → IsCarrying r o fl' tr' es
  carrying_fetched None o fl fl' tr tr' es f c = carrying_filled o fl fl' tr tr' es c f.0 f.1
  carrying_fetched (Some frame) o fl fl' tr tr' es f c =
      carrying_same (Some frame) o fl fl' tr tr' es es f.0 f.1 f.2 (inside_none r es es refl) c

  -- the frame in hand is on the road
  pub carrying_there : (frame : Frame) (fl : Option (List Frame)) (tr : Option (List Wire)) (es : List Entry) → IsCarrying r (Some frame) fl tr es
      → list_any (same_frame frame) (road_of es) ≡ true
  carrying_there frame fl tr es c =
      flight_on_road frame (road_of es) (frame ∷ c.frames) c.bag
      (omega (arith, sum_by-cons (counts_of (same_frame frame)) frame c.frames, counts_true (same_frame frame) frame (same_frame-refl frame)))

  -- the frame in hand is accepted
  pub carrying_taken : (frame : Frame) (fl : Option (List Frame)) (tr : Option (List Wire)) (es es' : List Entry)
      → AcceptsOne r frame es es' → IsCarrying r (Some frame) fl tr es → IsCarrying r None fl tr es'
  carrying_taken frame fl tr es es' one c = record {
    frames = c.frames;
    wires = c.wires;
    flight_is = c.flight_is;
    trace_is = c.trace_is;
    carried = one.carried (carrying_there frame fl tr es c) c.carried;
    bag = λ x. ap (count_by (same_frame x)) one.road ∙ omega (
      arith,
      c.bag x,
      sum_by-cons (counts_of (same_frame x)) frame c.frames,
      sum_by-without (counts_of (same_frame x)) (same_frame frame) (counts_of (same_frame x) frame)
          (λ y t. ap (counts_of (same_frame x)) (sym (same_frame-true frame y t))) (road_of es) (carrying_there frame fl tr es c),
    );
    sent = c.sent ∙ sym one.outs;
    arrived = c.arrived ∙ (sym one.ins ∙ sym (append-nil (ins es')));
  }
