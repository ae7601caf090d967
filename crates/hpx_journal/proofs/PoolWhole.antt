-- Over all localities: an object that stands travels nowhere, and for each that travels a MOVE is pending.
use Rattle.std.proofs.Common.{ℕ, zero, suc, Bool, true, false, cond, List, [], ◌∷◌, ◌≡◌, ◌≢◌, ◌+◌, ◌<◌, ◌≤◌, Option, Some, refl, sym, ap, ◌∙◌, arith, inl, inr}
use Rattle.std.specs.Prelude.{◌||◌, ◌&&◌}
use Rattle.std.specs.List.{list_any, find, sum_by, count_by, AllByRecursion}
use Rattle.std.proofs.lemmas.List.Sums.{sum_by-cons}
use Rattle.std.proofs.lemmas.Bool.{cases_Bool, cases_eq, cases_lt}
use Rattle.hpx_value.specs.Ids.{Id, same_object}
use Rattle.hpx_value.specs.Values.{bare_act, bare_state}
use Rattle.hpx_journal.specs.Bags.{minus, total}
use Rattle.hpx_journal.specs.Data.{Act, State, Message, Parcel, Shipped}
use Rattle.hpx_journal.specs.Entries.{Event, Out, In, Entry, Travel, Rules, Frame, same_frame, target_of, move_to}
use Rattle.hpx_journal.specs.Frames.{travels_in, travel_of}
use Rattle.hpx_journal.specs.Local.{Local, is_standing, is_travel}
use Rattle.hpx_journal.specs.Rows.{Row, MayGo, is_to}
use Rattle.hpx_journal.specs.Foreign.{kept}
use Rattle.hpx_journal.specs.Whole.{Space, sends, arrives, arrives_at, road_after, MayStand}
use Rattle.hpx_journal.specs.Pool.{target_in, moves_to, act_mass, frame_mass, mass}
use Rattle.hpx_journal.proofs.Bags.{list_any-find, total-term}
use Rattle.hpx_journal.proofs.Same.{same_object-true}
use Rattle.hpx_journal.proofs.Objects.{frame_objects}
use Rattle.hpx_journal.proofs.Wholes.{IsWhole}
use Rattle.hpx_journal.proofs.Joined.{one_object}
use Rattle.hpx_journal.proofs.Mass.{departs, lands}
use Rattle.hpx_journal.proofs.PoolLists.{all-minus, all-append, all-map, find-all, one-any}
use Rattle.hpx_journal.proofs.PoolSteps.{IsApart}
use Rattle.hpx_journal.proofs.PoolSound.{IsSound}

-- ---- two places of a sum

total-two : (n : ℕ) (f : ℕ → ℕ) (k j : ℕ) → k < n → j < n → k ≢ j → f k + f j ≤ total n f
total-two zero f k j h i d = omega arith
total-two (suc n) f k j h i d =
    elim (cases_lt k n) [
      | inl below ↦
          elim (cases_lt j n) [
            | inl low ↦ omega (arith, total-two n f k j below low d)
            | inr high ↦ rw (let e : j ≡ n = omega arith in e) (omega (arith, total-term n f k below))
          ]
      | inr above ↦
          let e : k ≡ n = omega arith in
          let low : j < n = omega arith in
          rw e (omega (arith, total-term n f j low))
    ]

no_one : (b : Bool) → cond {A = ℕ} b 1 0 ≡ 0 → b ≡ false
no_one true e = absurd (omega (arith, e))
no_one false e = refl

none-count : {X : Type 0} (p : X → Bool) (xs : List X) → count_by p xs ≡ 0 → AllByRecursion (λ x. p x ≡ false) xs
none-count p [] h = tt
none-count p (x ∷ xs) h =
    let s = sum_by-cons (λ y. cond {A = ℕ} (p y) 1 0) x xs in
    (no_one (p x) (omega arith), none-count p xs (omega arith))

none-sum : {X : Type 0} (f : X → ℕ) (xs : List X) → sum_by f xs ≡ 0 → AllByRecursion (λ x. f x ≡ 0) xs
none-sum f [] h = tt
none-sum f (x ∷ xs) h = let s = sum_by-cons f x xs in (omega arith, none-sum f xs (omega arith))

any-sum_at : {X : Type 0} (p : X → Bool) (f : X → ℕ) (b : Bool) (x : X) (xs : List X) → p x ≡ b → (p x ≡ true → 1 ≤ f x)
    → (list_any p xs ≡ true → 1 ≤ sum_by f xs) → (b || list_any p xs) ≡ true → 1 ≤ sum_by f (x ∷ xs)
any-sum_at p f true x xs e one rest h = omega (arith, sum_by-cons f x xs, one e)
any-sum_at p f false x xs e one rest h = omega (arith, sum_by-cons f x xs, rest h)

pub any-sum : {X : Type 0} (p : X → Bool) (f : X → ℕ) → ((x : X) → p x ≡ true → 1 ≤ f x) → (xs : List X) → list_any p xs ≡ true → 1 ≤ sum_by f xs
any-sum p f one [] h = cc
any-sum p f one (x ∷ xs) h = any-sum_at p f (p x) x xs refl (one x) (any-sum p f one xs) h

other_kind : (o t : Id) → o.kind < 16 → 16 ≤ t.kind → same_object o t ≡ false
other_kind o t low high =
    elim (cases_Bool (same_object o t)) [
      | inl same ↦ absurd (omega (arith, low, high, ap (λ v. v.kind) (same_object-true o t same)))
      | inr other ↦ other
    ]

-- ---- an object that stands travels nowhere

abbrev pub RoadApart : Rules → Id → List Frame → Type 0
RoadApart r o road = AllByRecursion (λ f. AllByRecursion (IsApart o) (travels_in (r.parcel_of f.1))) road

abbrev pub RoadManaged : Rules → List Frame → Type 0
RoadManaged r road = AllByRecursion (λ f. AllByRecursion (λ x. 16 ≤ x.object.kind) (travels_in (r.parcel_of f.1))) road

apart_at : (r : Rules) (w : Space) → IsWhole r w → (o : Id) → 16 ≤ o.kind → (k : ℕ) → k < r.localities
    → list_any (is_standing o) (w.places k).objects ≡ true → (j : ℕ) → j < r.localities → count_by (is_travel o) (w.places j).travels ≡ 0
apart_at r w whole o managed k h there j i =
    elim (cases_eq k j) [
      | inl same ↦
          omega (
            arith,
            one_object r w whole o managed,
            total-term r.localities (λ l. kept o (w.places l)) k h,
            one-any (is_standing o) (w.places k).objects there,
            ap (λ l. count_by (is_travel o) (w.places l).travels) same,
          )
      | inr other ↦
          omega (
            arith,
            one_object r w whole o managed,
            total-two r.localities (λ l. kept o (w.places l)) k j h i other,
            one-any (is_standing o) (w.places k).objects there,
          )
    ]

road_at : (r : Rules) (w : Space) → IsWhole r w → (o : Id) → 16 ≤ o.kind → (k : ℕ) → k < r.localities
    → list_any (is_standing o) (w.places k).objects ≡ true → sum_by (frame_objects r o) w.road ≡ 0
road_at r w whole o managed k h there =
    omega (
      arith,
      one_object r w whole o managed,
      total-term r.localities (λ l. kept o (w.places l)) k h,
      one-any (is_standing o) (w.places k).objects there,
    )

pub travels_apart : (r : Rules) (w : Space) → IsWhole r w → ((j : ℕ) → IsSound j (w.places j)) → (o : Id) (k : ℕ) → k < r.localities
    → list_any (is_standing o) (w.places k).objects ≡ true → (j : ℕ) → j < r.localities → AllByRecursion (IsApart o) (w.places j).travels
travels_apart r w whole sound o k h there j i =
    elim (cases_lt o.kind 16) [
      | inl low ↦ all-map (λ x. 16 ≤ x.object.kind) (IsApart o) (λ x high. other_kind o x.object low high) (w.places j).travels (sound j).managed
      | inr managed ↦ none-count (is_travel o) (w.places j).travels (apart_at r w whole o (omega arith) k h there j i)
    ]

pub road_apart : (r : Rules) (w : Space) → IsWhole r w → RoadManaged r w.road → (o : Id) (k : ℕ) → k < r.localities
    → list_any (is_standing o) (w.places k).objects ≡ true → RoadApart r o w.road
road_apart r w whole carried o k h there =
    elim (cases_lt o.kind 16) [
      | inl low ↦
          all-map (λ f. AllByRecursion (λ x. 16 ≤ x.object.kind) (travels_in (r.parcel_of f.1)))
          (λ f. AllByRecursion (IsApart o) (travels_in (r.parcel_of f.1)))
          (λ f all. all-map (λ x. 16 ≤ x.object.kind) (IsApart o) (λ x high. other_kind o x.object low high) (travels_in (r.parcel_of f.1)) all) w.road carried
      | inr managed ↦
          all-map (λ f. frame_objects r o f ≡ 0) (λ f. AllByRecursion (IsApart o) (travels_in (r.parcel_of f.1)))
          (λ f none. none-count (is_travel o) (travels_in (r.parcel_of f.1)) none) w.road
          (none-sum (frame_objects r o) w.road (road_at r w whole o (omega arith) k h there))
    ]

-- an object that travels stands nowhere
pub stands_apart : (r : Rules) (w : Space) → IsWhole r w → (o : Id) → 16 ≤ o.kind → (k : ℕ) → k < r.localities → (x : Travel)
    → find (is_travel o) (w.places k).travels ≡ Some x → (j : ℕ) → j < r.localities → (t : Id)
    → list_any (is_standing t) (w.places j).objects ≡ true → same_object t o ≡ false
stands_apart r w whole o managed k h x f j i t there =
    elim (cases_Bool (same_object t o)) [
      | inl same ↦
          let o_there : list_any (is_standing o) (w.places j).objects ≡ true =
          sym (ap (λ v. list_any (is_standing v) (w.places j).objects) (same_object-true t o same)) ∙ there in
          absurd (omega (
            arith,
            one-any (is_travel o) (w.places k).travels (list_any-find (is_travel o) (w.places k).travels x f),
            apart_at r w whole o managed j i o_there k h,
          ))
      | inr other ↦ other
    ]

-- ---- for each that travels a MOVE is pending

-- a MOVE of an object to a place counts one
abbrev pub moving : Travel → Message → ℕ
moving x m = cond (same_object x.object (target_in m) && is_to x.to (moves_to m)) 1 0

abbrev pub HasMove : Rules → Space → Travel → Type 0
HasMove r w x = 1 ≤ mass r (moving x) w

pub record AreTowards (r : Rules) (w : Space) : Type 0 where
  pub places : (k : ℕ) → k < r.localities → AllByRecursion (HasMove r w) (w.places k).travels
  pub road : AllByRecursion (λ f. AllByRecursion (HasMove r w) (travels_in (r.parcel_of f.1))) w.road

pub sends_mass : (r : Rules) (f : Message → ℕ) (e : Event) → sum_by (frame_mass r f) (sends e) ≡ sum_by (act_mass f) (departs r e)
sends_mass r f (Out to bytes) = omega (arith, sum_by-cons (frame_mass r f) ((to, bytes)) [])
sends_mass r f _ = refl

pub arrives_mass : (r : Rules) (f : Message → ℕ) (k : ℕ) (e : Event) → sum_by (frame_mass r f) (arrives_at k e) ≡ sum_by (act_mass f) (lands r e)
arrives_mass r f k (In bytes) = omega (arith, sum_by-cons (frame_mass r f) ((k, bytes)) [])
arrives_mass r f k _ = refl

shipped : (P : Travel → Type 0) (act : Act) (state : State) (to : ℕ) (moves : Option ℕ) → moves ≡ Some to
    → P (record { object = target_of act; state = state; to = to }) → AllByRecursion P (travel_of act state moves)
shipped P act state to moves e one = rw e (one, tt)

-- where an object that an entry ships was travelling
pub out_travels : (P : Travel → Type 0) (s : Local) (to : ℕ) (p : Parcel) → MayGo s to p → AllByRecursion P s.travels → AllByRecursion P (travels_in (Some p))
out_travels P s to (Shipped act state) h all =
    shipped P (bare_act act) (bare_state state) to (move_to (bare_act act)) h.0
    (find-all P (is_travel (target_of (bare_act act))) s.travels (record { object = target_of (bare_act act); state = bare_state state; to = to }) all h.1)
out_travels P s to _ h all = tt

sent_travels : (P : Travel → Type 0) (r : Rules) (s : Local) → AllByRecursion P s.travels → (e : Event) → Row r s e
    → AllByRecursion (λ f. AllByRecursion P (travels_in (r.parcel_of f.1))) (sends e)
sent_travels P r s here (Out to bytes) row = let x = row.2 in (rw (x.1) (out_travels P s to x.0 x.3 here), tt)
sent_travels P r s here _ row = tt

-- an object on the road stays so, or comes from where it travelled
pub road_travels : (P : Travel → Type 0) (r : Rules) (w : Space) (e : Entry) → MayStand r w e → AllByRecursion P (w.places e.at).travels
    → AllByRecursion (λ f. AllByRecursion P (travels_in (r.parcel_of f.1))) w.road
    → AllByRecursion (λ f. AllByRecursion P (travels_in (r.parcel_of f.1))) (road_after w.road e)
road_travels P r w e ok here road =
    all-append (λ f. AllByRecursion P (travels_in (r.parcel_of f.1))) (sends e.event) (minus same_frame w.road (arrives e))
    (sent_travels P r (w.places e.at) here e.event ok.allowed.row) (all-minus (λ f. AllByRecursion P (travels_in (r.parcel_of f.1))) same_frame w.road (arrives e) road)
