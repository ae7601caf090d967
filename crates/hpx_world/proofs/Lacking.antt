-- A commit that waits has asked for something, so an Ask or a Give of it is on its way.
use Rattle.std.proofs.Common.{ℕ, zero, suc, Bool, true, false, cond, List, [], ◌∷◌, ◌≡◌, ◌≢◌, ◌^◌, ◌<◌, ◌≤◌, length, take, refl, sym, ap, subst, arith, inl, inr, append-nil}
use Rattle.std.specs.Prelude.{◌==◌}
use Rattle.std.specs.List.{sum_by, count_by, filter, AllByRecursion}
use Rattle.std.proofs.lemmas.Bool.{cases_Bool, eq-eqb, and_parts, leb-true}
use Rattle.std.proofs.lemmas.List.{length-map}
use Rattle.std.proofs.lemmas.List.Sums.{sum_by-cons, sum_by-append}
use Rattle.std.proofs.Math.Pow.{pow_pos}
use Rattle.hpx_value.specs.Hands.{id_at}
use Rattle.hpx_value.specs.Ids.{bare, same_object}
use Rattle.hpx_journal.specs.Data.{Id, Parcel, Return, Ask, Give, Arrived}
use Rattle.hpx_journal.specs.Entries.{Rules}
use Rattle.hpx_journal.specs.Laws.{ask_tokens}
use Rattle.hpx_journal.specs.Local.{is_given}
use Rattle.hpx_journal.specs.Tokens.{is_owed}
use Rattle.hpx_journal.specs.Whole.{IsJoin, replayed}
use Rattle.hpx_journal.proofs.Bags.{total-zero}
use Rattle.hpx_journal.proofs.Frames.{total_less}
use Rattle.hpx_journal.proofs.Same.{same_object-refl}
use Rattle.hpx_journal.proofs.Start.{joined_asked}
use Rattle.hpx_part.specs.Data.{Entry, Standing, Token}
use Rattle.hpx_part.proofs.Keyed.{counts_of, counts_true}
use Rattle.hpx_tables.specs.Kept.{credit_owed, owed_worth}
use Rattle.hpx_agas.specs.declared.record.Waiting.{Waiting}
use Rattle.hpx_steps.specs.Rest.{Lacks, IsPaused, IsTidy}
use Rattle.hpx_steps.specs.Sound.{IsGranted, IsStray, IsWaitingFor}
use Rattle.hpx_steps.proofs.Sums.{messages_sum}
use Rattle.hpx_tables.specs.declared.kept.Outgoing.{Outgoing}
use Rattle.hpx_tables.specs.Pending.{Waits, own_ids, ids_named, is_asked, asking_of}
use Rattle.hpx_tables.specs.Tables.{Tables, messages}
use Rattle.hpx_node.proofs.Numbers.{owed_shown}
use Rattle.hpx_world.proofs.Known.{IsJoined, IsShown, AreShown}
use Rattle.hpx_world.proofs.Rowed.{none_sum}

-- ---- one commit

-- what was asked for is among the ids of the hand that lack credit
asked_among : (hand : List Id) (n p : ℕ) → p < length (take n hand) → is_asked (id_at hand p) ≡ true
    → 1 ≤ count_by (same_object (id_at hand p)) (filter is_asked (take n hand))
asked_among [] zero p lt t = absurd (omega (arith, lt))
asked_among [] (suc n) p lt t = absurd (omega (arith, lt))
asked_among (id ∷ ids) zero p lt t = absurd (omega (arith, lt))
asked_among (id ∷ ids) (suc n) zero lt t =
    rw t (omega (arith, sum_by-cons (counts_of (same_object id)) id (filter is_asked (take n ids)), counts_true (same_object id) id (same_object-refl id)))
asked_among (id ∷ ids) (suc n) (suc p) lt t =
    let rest = asked_among ids n p (omega (arith, lt)) t in
    elim (cases_Bool (is_asked id)) [
      | inl u ↦ rw u (omega (arith, rest, sum_by-cons (counts_of (same_object (id_at ids p))) id (filter is_asked (take n ids))))
      | inr u ↦ rw u rest
    ]

-- an object that this commit asks for
pub record IsWanting (ws : List Waits) : Type 0 where
  pub object : Id
  pub managed : 16 ≤ object.kind
  pub asked : 1 ≤ count_by (same_object object) (asking_of ws)

one_such : {X : Type 0} (ys : List X) (x : X) (xs : List X) (place : X → ℕ) → ys ≡ x ∷ xs → 1 ≤ count_by (λ y. place y == place x) ys
one_such ys x xs place is =
    subst (λ zs. 1 ≤ count_by (λ y. place y == place x) zs) (sym is)
    (omega (arith, counts_true (λ y. place y == place x) x (eq-eqb (place x) (place x) refl), sum_by-cons (counts_of (λ y. place y == place x)) x xs))

first_all : {X : Type 0} (ys : List X) (x : X) (xs : List X) (P : X → Type 0) → ys ≡ x ∷ xs → AllByRecursion P ys → P x
first_all ys x xs P is h = (subst (AllByRecursion P) is h).0

asked_one : (k n log : ℕ) (objects : List Standing) (w : Waits) (ws : List Waits) → IsPaused k n log objects w → (asked : List _) → w.asked ≡ asked
    → asked ≢ [] → IsWanting (w ∷ ws)
asked_one k n log objects w ws paused [] is some = absurd (some refl)
asked_one k n log objects w ws paused (x ∷ xs) is some =
    let within = first_all w.asked x xs (λ y. y.place < length (ids_named w)) is paused.within in
    let one = one_such w.asked x xs (λ y. y.place) is in
    let t : is_asked (id_at w.hand x.place) ≡ true = must (is_asked (id_at w.hand x.place)) (omega (arith, one, paused.once x.place within)) in
    let long : x.place < length (own_ids w) =
    omega (arith, within, ap length paused.hand, length-map (own_ids w) bare, length-map (ids_named w) bare) in
    record {
      object = id_at w.hand x.place;
      managed = leb-true 16 (id_at w.hand x.place).kind (and_parts _ _ t).0;
      asked = omega (
        arith,
        asked_among w.hand (length (ids_named w)) x.place long t,
        sum_by-append (counts_of (same_object (id_at w.hand x.place))) (filter is_asked (own_ids w)) (asking_of ws),
      );
    }
  where
    must : (b : Bool) → 1 ≤ cond b 1 0 → b ≡ true
    must true h = refl
    must false h = absurd (omega (arith, h))

-- ---- all of them

owed_few : (o : Id) (ks : List Token) → count_by (is_owed o) ks ≤ sum_by (owed_worth o) ks
owed_few o [] = omega arith
owed_few o (k ∷ ks) =
    omega (
      arith,
      owed_few o ks,
      sum_by-cons (counts_of (is_owed o)) k ks,
      sum_by-cons (owed_worth o) k ks,
      some (is_owed o k) k.log,
    )
  where
    some : (b : Bool) (log : ℕ) → cond b 1 0 ≤ cond b (2 ^ log) 0
    some true log = omega (arith, pow_pos log)
    some false log = omega arith

-- ---- what waits, is to leave or is stray owes nothing

waits_owes : (o : Id) (k n : ℕ) (p : Parcel) → IsWaitingFor k n p → credit_owed o p ≡ 0
waits_owes o k n (Return id) h = absurd h
waits_owes o k n (Ask id asker entry) h = absurd h
waits_owes o k n (Give id entry) h = absurd h
waits_owes o k n (Arrived id place) h = absurd h
waits_owes o k n _ h = refl

leaves_owes : (o : Id) (k : ℕ) (objects : List Standing) (p : Parcel) → IsGranted k objects p → credit_owed o p ≡ 0
leaves_owes o k objects (Return id) h = absurd h
leaves_owes o k objects (Ask id asker entry) h = absurd h
leaves_owes o k objects (Give id entry) h = absurd h
leaves_owes o k objects (Arrived id place) h = absurd h
leaves_owes o k objects _ h = refl

stray_owes : (o : Id) (p : Parcel) → IsStray p → credit_owed o p ≡ 0
stray_owes o (Return id) h = absurd h
stray_owes o (Ask id asker entry) h = absurd h
stray_owes o (Give id entry) h = absurd h
stray_owes o (Arrived id place) h = absurd h
stray_owes o _ h = refl

-- so nothing does where no message goes
owes_none : (t : Tables) → IsTidy t [] → t.desk ≡ [] → t.outgoing ≡ [] → (o : Id) → sum_by (credit_owed o) (messages t) ≡ 0
owes_none t tidy desk outgoing o = omega (
  arith,
  messages_sum (credit_owed o) t,
  ap (sum_by (credit_owed o)) desk,
  ap (sum_by (λ (x : Outgoing). credit_owed o x.parcel)) outgoing,
  none_sum (λ (w : Waiting Parcel). IsWaitingFor t.here w.number w.item) (λ (w : Waiting Parcel). credit_owed o w.item) t.queued (λ w h. waits_owes o t.here w.number w.item h) tidy.queued,
  none_sum (IsGranted t.here t.objects) (credit_owed o) t.leaving (leaves_owes o t.here t.objects) tidy.leaving,
  none_sum IsStray (credit_owed o) t.stray (stray_owes o) tidy.stray,
)

module _ (r : Rules) (log : ℕ) (es : List Entry) (joined : IsJoined r es) (each : AreShown r log es) where
  -- nothing is owed where no message goes
  pub none_owed : (k : ℕ) (t : Tables) (s : IsShown r log es k t) → t.desk ≡ [] → t.outgoing ≡ [] → (o : Id) → count_by (is_owed o) ((replayed r es).places k).tokens ≡ 0
  none_owed k t s desk outgoing o = omega (
    arith,
    owed_few o ((replayed r es).places k).tokens,
    owed_shown t ((replayed r es).places k) o s.tidy s.shows,
    owes_none t s.tidy desk outgoing o,
  )

  module _ (road : (replayed r es).road ≡ []) (silent : (o : Id) (k : ℕ) → k < r.localities → count_by (is_owed o) ((replayed r es).places k).tokens ≡ 0)
      (k : ℕ) (t : Tables) (s : IsShown r log es k t) where
    wanting : IsWanting t.pending → ⊥
    wanting x =
        let more = s.shows.credit.asking x.object in
        let few = joined_asked r joined.grammar es [] (subst (IsJoin r) (sym (append-nil es)) joined.join) x.object x.managed in
        omega (
          arith,
          few,
          x.asked,
          total-zero r.localities (λ j. count_by (is_owed x.object) ((replayed r es).places j).tokens) (silent x.object),
          ap (sum_by (λ f. count_by (is_owed x.object) (ask_tokens (r.parcel_of f.1)))) road,
          total_less r.localities (λ j. count_by (is_given x.object) ((replayed r es).places j).given)
              (λ j. count_by (same_object x.object) ((replayed r es).places j).asked) k s.lt
              (λ j lt. omega (arith, (each j lt).1.shows.credit.asking x.object)) (omega (arith, more, x.asked)),
        )

    none_waits : (ws : List Waits) → t.pending ≡ ws → AllByRecursion (λ w. w.asked ≢ []) ws → ws ≡ []
    none_waits [] is lacks = refl
    none_waits (w ∷ ws) is lacks =
        let paused = (subst (AllByRecursion (IsPaused t.here t.localities t.profile.credit_log t.objects)) is s.tidy.paused.each).0 in
        absurd (wanting (subst IsWanting (sym is) (asked_one t.here t.localities t.profile.credit_log t.objects w ws paused w.asked refl lacks.0)))

    -- where nothing is on its way no commit waits
    pub none_pending : Lacks t → t.pending ≡ []
    none_pending lacks = none_waits t.pending refl lacks
