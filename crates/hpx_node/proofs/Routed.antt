-- Where an action goes.
use Rattle.hpx_node.proofs.Common.{Accept, Act, Begin, Go, Id, List, None, Option, Parcel, Queue, Record, Some, Tables, To, [], any_at, ap, append-nil, bare_act, false, find_record, is_some, list_any, move_by, move_to, nat_lt, not, option_and_then, parcel_for, record_here, refl, remade, some_same, stays_here, subst, sym, target_of, true, waits, way, way_by, way_to, with_act, with_last, with_mail, ℕ, ◌&&◌, ◌++◌, ◌==◌, ◌||◌, ◌∙◌, ◌∷◌, ◌≡◌}
use Rattle.std.specs.Prelude.{IfNone, IfSome, IsSome, slice_get, ◌≢◌}
use Rattle.hpx_tables.specs.Kept.{grants}
use Rattle.hpx_agas.specs.Registries.{IsFree}
use Rattle.hpx_agas.specs.declared.record.Waiting.{Waiting}
use Rattle.hpx_steps.specs.Frames.{MayGoTo}
use Rattle.hpx_steps.proofs.Puts.{goes_letter, move_to-bare, way_goes}
use Rattle.hpx_steps.proofs.ByRows.{if_so}

module _ (act : Act) (t : Tables) where
  -- by each way
  pub goes_accept : way t act ≡ Accept → record t { accepted = t.accepted ++ act ∷ [] } ≡ with_act act t
  goes_accept is = rw is (simp append-nil)

  pub goes_queue : way t act ≡ Queue → record t { queued = with_last (waits (target_of act).number (parcel_for act)) t.queued } ≡ with_act act t
  goes_queue is = rw is (simp append-nil)

  pub goes_to : (to : ℕ) → way t act ≡ To to → with_mail to (parcel_for act) t ≡ with_act act t
  goes_to to is = rw is (simp append-nil)

  pub goes_begin : (place : ℕ) → way t act ≡ Begin place
      → with_mail place (Go act) (record t { records = remade (target_of act) (λ (r : Record). record r { moving = move_to act }) t.records }) ≡ with_act act t
  goes_begin place is = rw is (simp append-nil)

-- a move begins: the record says where to, and the MOVE is on its way
pub moved_goes : (t : Tables) (act : Act) (place to births : ℕ) (queued : List (Waiting Parcel)) (records : List Record) → way t act ≡ Begin place → Some to ≡ move_to act
    → births ≡ t.births → queued ≡ t.queued → records ≡ remade (target_of act) (λ (r : Record). record r { moving = Some to }) t.records → (t' : Tables)
    → t' ≡ with_mail place (Go act) (record t { births = births; queued = queued; records = records }) → t' ≡ with_act act t
moved_goes t act place to births queued records way is born still made t' goes =
    goes
    ∙ (ap (λ n. with_mail place (Go act) (record t { births = n; queued = queued; records = records })) born
    ∙ (ap (λ ws. with_mail place (Go act) (record t { queued = ws; records = records })) still
    ∙ (ap (λ rs. with_mail place (Go act) (record t { records = rs })) made
    ∙ (ap (λ m. with_mail place (Go act) (record t { records = remade (target_of act) (λ (r : Record). record r { moving = m }) t.records })) is
    ∙ goes_begin act t place way))))

-- a record of an object that moves
abbrev pub Moves : List Record → Id → Type 0
Moves records o = (x : Record) × (find_record o records ≡ Some x) × (is_some x.moving ≡ true)

by_moves : (here : ℕ) (records : List Record) (o : Id) (x : Option Record) → find_record o records ≡ x → way_by here x ≡ Queue → Moves records o
by_moves here records o None is h = absurd (let e : To here ≡ Queue = h in cc)
by_moves here records o (Some x) is h = if_so (is_some x.moving) (λ m. (x, is, m)) (λ m. absurd (let e : To x.place ≡ Queue = rw m at h in cc))

move_moves : (here to : ℕ) (records : List Record) (o : Id) (x : Option Record) → find_record o records ≡ x → move_by here to x ≡ Queue → Moves records o
move_moves here to records o None is h = absurd (let e : To here ≡ Queue = h in cc)
move_moves here to records o (Some x) is h = if_so (is_some x.moving) (λ m. (x, is, m))
    (λ m. if_so (x.place == to) (λ p. absurd (let e : To to ≡ Queue = rw (m, p) at h in cc)) (λ p. absurd (let e : Begin x.place ≡ Queue = rw (m, p) at h in cc)))

-- what waits is for an object that moves
pub queue_moves : (t : Tables) (o : Id) (m : Option ℕ) → way_to t o m ≡ Queue → Moves t.records o
queue_moves t o None h = if_so (stays_here t o) (λ a. absurd (let e : Accept ≡ Queue = rw a at h in cc))
    (λ a. if_so (nat_lt o.kind 16 || not (o.home == t.here)) (λ b. absurd (let e : To o.home ≡ Queue = rw (a, b) at h in cc))
    (λ b. by_moves t.here t.records o (record_here t o) refl (rw (a, b) at h)))
queue_moves t o (Some to) h = if_so (stays_here t o && (to == t.here)) (λ a. absurd (let e : Accept ≡ Queue = rw a at h in cc))
    (λ a. if_so (not (o.home == t.here)) (λ b. absurd (let e : To o.home ≡ Queue = rw (a, b) at h in cc))
    (λ b. move_moves t.here to t.records o (record_here t o) refl (rw (a, b) at h)))

-- a move begins of an object that does not move
begins_by : (here to place : ℕ) (x : Record) → move_by here to (Some x) ≡ Begin place → x.moving ≡ None
begins_by here to place x is = each x.moving refl
  where
    each : (m : Option ℕ) → x.moving ≡ m → x.moving ≡ None
    each None e = e
    each (Some n) e = absurd (let k : Queue ≡ Begin place = rw e at is in cc)

pub begins_free : (t : Tables) (o : Id) (to place : ℕ) (x : Record) → find_record o t.records ≡ Some x → way_to t o (Some to) ≡ Begin place → x.moving ≡ None
begins_free t o to place x found h = if_so (stays_here t o && (to == t.here)) (λ a. absurd (let e : Accept ≡ Begin place = rw a at h in cc))
    (λ a. if_so (not (o.home == t.here)) (λ b. absurd (let e : To o.home ≡ Begin place = rw (a, b) at h in cc))
    (λ b. begins_by t.here to place x (rw (a, b, found) at h)))

-- a move begins to this place: its object is of here, does not move, and is not there
pub record BeginsTo (t : Tables) (act : Act) (place to : ℕ) : Type 0 where
  pub free : IsFree (find_record (target_of act) t.records) to
  pub home : t.here ≡ (target_of act).home
  pub away : move_to (bare_act act) ≢ Some place

pub begins_to : (t : Tables) (act : Act) (place to : ℕ) → way t act ≡ Begin place → Some to ≡ move_to act → BeginsTo t act place to
begins_to t act place to way is =
    let k = (way_goes t act).begin place way in
    let b = k.1.2 in
    let same : k.1.0 ≡ to = some_same k.1.0 to (sym k.1.1 ∙ sym is) in record {
      free = subst (λ (x : Option Record). IsFree x to) (sym b.was)
          (begins_free t (target_of act) to place b.old b.was (ap (way_to t (target_of act)) is ∙ way), λ e. b.away (same ∙ (sym e ∙ b.at)));
      home = k.0;
      away = λ e. b.away (some_same k.1.0 place (sym k.1.1 ∙ (sym (move_to-bare act) ∙ e)));
    }

-- no move begins of what does not move
pub begins_some : (t : Tables) (act : Act) (place : ℕ) → way t act ≡ Begin place → None ≡ move_to act → ⊥
begins_some t act place way none = let k = (way_goes t act).begin place way in let e : None ≡ Some k.1.0 = none ∙ k.1.1 in cc

-- where a message goes that carries an action to its object
pub letter_may : (t : Tables) (act : Act) (to : ℕ) → way t act ≡ To to → MayGoTo t.here to (parcel_for act)
letter_may t act to way = goes_letter t act to ((way_goes t act).onward to way)

pub moves_some : (records : List Record) (o : Id) → Moves records o → IsSome (option_and_then (λ (r : Record). r.moving) (find_record o records))
moves_some records o m = subst (λ x. IsSome (option_and_then (λ (r : Record). r.moving) x)) (sym m.1) m.2

-- it waits until its object has moved
pub queued_goes : (act : Act) (t : Tables) (births : ℕ) (records : List Record) (queued : List (Waiting Parcel)) → way t act ≡ Queue → births ≡ t.births → records ≡ t.records
    → queued ≡ with_last (waits (target_of act).number (parcel_for act)) t.queued → record t { births = births; records = records; queued = queued } ≡ with_act act t
queued_goes act t births records queued way born same put =
    ap (λ n. record t { births = n; records = records; queued = queued }) born
    ∙ (ap (λ rs. record t { records = rs; queued = queued }) same
    ∙ (ap (λ ws. record t { queued = ws }) put
    ∙ goes_queue act t way))

-- one of these messages grants a move of an object, or none does
pub granted_by : (o : Id) (ps : List Parcel) (r : Option ℕ) → IfSome r (λ i. (p : Parcel) × (slice_get ps i ≡ Some p) × (grants o p ≡ true)) → IfNone r (list_any (grants o) ps ≡ false)
    → is_some r ≡ list_any (grants o) ps
granted_by o ps None some none = sym none
granted_by o ps (Some i) some none = sym (any_at (grants o) ps i some.0 some.1 some.2)
