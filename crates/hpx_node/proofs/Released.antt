-- What waited for an object that landed goes on: nothing else changes.
use Rattle.std.proofs.Common.{ℕ, zero, suc, Bool, true, false, not, cond, if◌then◌else◌, List, [], ◌∷◌, Option, Some, None, ◌≡◌, ◌∙◌, ◌+◌, ◌-◌, ◌<◌, ◌⊎◌, inl, inr, ap, refl, sym, subst, arith, is_some, length, min, ◌≤◌}
use Rattle.std.specs.List.{find}
use Rattle.std.specs.Option.{option_map, option_map_or, option_and_then}
use Rattle.hpx_agas.specs.Queues.{is_for, items_of, waits, without_first}
use Rattle.hpx_agas.specs.Records.{find_record}
use Rattle.hpx_agas.specs.declared.record.Record.{Record}
use Rattle.hpx_agas.specs.declared.record.Waiting.{Waiting}
use Rattle.hpx_journal.specs.Data.{Apply, Move, Go, Shipped, Return, Ask, Give, Cached, Free, Arrived}
use Rattle.hpx_tables.specs.Kept.{moving_here, record_here}
use Rattle.hpx_steps.proofs.ByRows.{if_so}
use Rattle.hpx_steps.proofs.Changes.{found_among}
use Rattle.hpx_steps.specs.Calls.{act_in, released_by, with_released}
use Rattle.hpx_steps.specs.Items.{Queued}
use Rattle.hpx_steps.specs.Rest.{StandsBut}
use Rattle.hpx_steps.specs.Sound.{IsWaitingFor}
use Rattle.hpx_steps.specs.Ways.{with_act}
use Rattle.hpx_node.proofs.Common.{Accepts, Act, DealsWith, Entry, Event, Id, IfFollows, IfSome, IsNext, Locality, Next, Outcome, Parcel, Stands, State, Tables, Writes, released_stands}
use Rattle.hpx_node.proofs.Followed.{next_gives}
use Rattle.hpx_node.proofs.Spared.{spare_popped}
use Rattle.hpx_node.specs.Behind.{is_still, landed_in, releases, goes_on}

-- what may change
abbrev pub moved : Tables → Tables → Tables
moved t u = record t { accepted = u.accepted; desk = u.desk; outgoing = u.outgoing; queued = u.queued; records = u.records }

-- the first that waits, on its way
abbrev pub one_goes : Id → Tables → Waiting Parcel → Tables
one_goes o t w = with_act (act_in w.item) (record t { queued = without_first o.number t.queued })

released_rest : (n : ℕ) (o : Id) (t : Tables) → releases n o t ≡ moved t (releases n o t)
released_rest zero o t = refl
released_rest (suc n) o t = if_so (is_still t o) (λ s. rw s (each (λ u. released_rest n o u) (find (is_for o.number) t.queued))) (λ s. rw s refl)
  where
    each : ((u : Tables) → releases n o u ≡ moved u (releases n o u)) → (w : Option (Waiting Parcel)) → released_by t o (releases n o) w ≡ moved t (released_by t o (releases n o) w)
    each more None = refl
    each more (Some w) = more (one_goes o t w)

goes_rest : (o : Option Id) (t : Tables) → goes_on o t ≡ moved t (goes_on o t)
goes_rest None t = refl
goes_rest (Some o) t = released_rest _ o t

pub went_on : (o : Option Id) (t u : Tables) → u ≡ goes_on o t → u ≡ moved t u
went_on o t u e = subst (λ v. v ≡ moved t v) (sym e) (goes_rest o t)

pub went_writes : {events : List Event} {entries entries' : List Entry} (o : Option Id) (t t' u : Tables) → u ≡ goes_on o t' → Writes events t t' entries entries'
    → Writes events t u entries entries'
went_writes o t t' u e w =
    let rest = went_on o t' u e in record {
      here = ap (λ (v : Tables). v.here) rest ∙ w.here;
      localities = ap (λ (v : Tables). v.localities) rest ∙ w.localities;
      profile = ap (λ (v : Tables). v.profile) rest ∙ w.profile;
      grows = w.grows;
    }

-- ---- it stands

-- by its record
still_moves : (x : Option Record) → option_map_or (λ (r : Record). not (is_some r.moving)) x false ≡ true → is_some (option_and_then (λ (r : Record). r.moving) x) ≡ false
still_moves None h = cc
still_moves (Some r) h = if_so (is_some r.moving) (λ m. absurd (let k = rw m at h in cc)) (λ m. m)

pub one_stands : (act_of : ℕ → ℕ → ℕ → State → Act → Outcome) (landed : Option Id) (o : Id) (t : Tables) (entries : List Entry) (w : Waiting Parcel) → is_still t o ≡ true
    → find (is_for o.number) t.queued ≡ Some w → StandsBut landed act_of t entries → StandsBut landed act_of (one_goes o t w) entries
one_stands act_of landed o t entries w still found h =
    let k : is_some (moving_here t o) ≡ false = still_moves (record_here t o) still in
    let s : StandsBut landed act_of (with_released 1 o t) entries = released_stands act_of landed 1 o t entries h in
    rw (k, found) at s

pub releases_stands : (act_of : ℕ → ℕ → ℕ → State → Act → Outcome) (landed : Option Id) (n : ℕ) (o : Id) (t : Tables) (entries : List Entry) → StandsBut landed act_of t entries
    → StandsBut landed act_of (releases n o t) entries
releases_stands act_of landed zero o t entries h = h
releases_stands act_of landed (suc n) o t entries h =
    if_so (is_still t o) (λ s. rw s (each (λ u k. releases_stands act_of landed n o u entries k) s (find (is_for o.number) t.queued) refl)) (λ s. rw s h)
  where
    each : ((u : Tables) → StandsBut landed act_of u entries → StandsBut landed act_of (releases n o u) entries) → is_still t o ≡ true → (w : Option (Waiting Parcel))
        → find (is_for o.number) t.queued ≡ w → StandsBut landed act_of (released_by t o (releases n o) w) entries
    each more s None e = h
    each more s (Some w) e = more (one_goes o t w) (one_stands act_of landed o t entries w s e h)

-- ---- what the loop does

-- whether an object is still, by what its home tells
pub still_none : (x : Option Record) → option_map (λ (r : Record). r.place) x ≡ None → false ≡ option_map_or (λ (r : Record). not (is_some r.moving)) x false
still_none None h = refl
still_none (Some r) h = cc

pub still_moving : (x : Option Record) (to : ℕ) → option_and_then (λ (r : Record). r.moving) x ≡ Some to → false ≡ option_map_or (λ (r : Record). not (is_some r.moving)) x false
still_moving None to h = cc
still_moving (Some r) to h = rw h refl

pub still_stays : (x : Option Record) (place : ℕ) → option_map (λ (r : Record). r.place) x ≡ Some place → option_and_then (λ (r : Record). r.moving) x ≡ None
    → true ≡ option_map_or (λ (r : Record). not (is_some r.moving)) x false
still_stays None place h m = cc
still_stays (Some r) place h m = rw m refl

-- where something stops, it has been released as far as it goes
one_left : (n i : ℕ) → i < n → (m : ℕ) × (n - i ≡ suc m) × (n - (suc i) ≡ m)
one_left n i lt = (n - (suc i), omega (arith, lt), refl)

pub stops_moving : (n i : ℕ) (o : Id) (t : Tables) → i < n → is_still t o ≡ false → releases (n - i) o t ≡ t
stops_moving n i o t lt s = let m = one_left n i lt in rw (m.1, s) refl

items_none : (n : ℕ) (ws : List (Waiting Parcel)) → items_of n ws ≡ [] → find (is_for n) ws ≡ None
items_none n [] h = refl
items_none n (w ∷ ws) h = if_so (is_for n w) (λ t. absurd (let k = rw t at h in cc)) (λ f. rw f (items_none n ws (rw f at h)))

still_live : (x : Option Record) → option_map_or (λ (r : Record). not (is_some r.moving)) x false ≡ true → is_some x ≡ true
still_live None h = cc
still_live (Some r) h = refl

pub stops_empty : (n i : ℕ) (o : Id) (t : Tables) → i < n → is_still t o ≡ true → (if is_some (record_here t o) then items_of o.number t.queued else []) ≡ []
    → releases (n - i) o t ≡ t
stops_empty n i o t lt s none =
    let m = one_left n i lt in
    let k = items_none o.number t.queued (rw (still_live (record_here t o) s) at none) in
    rw (m.1, s, k) refl

pub goes_one : (n i : ℕ) (o : Id) (t : Tables) (w : Waiting Parcel) → i < n → is_still t o ≡ true → find (is_for o.number) t.queued ≡ Some w
    → releases (n - (suc i)) o (one_goes o t w) ≡ releases (n - i) o t
goes_one n i o t w lt s found = let m = one_left n i lt in rw (m.1, m.2, s, found) refl

-- what waits is an action
pub waits_act : (act_of : ℕ → ℕ → ℕ → State → Act → Outcome) (landed : Option Id) (o : Id) (t : Tables) (entries : List Entry) (w : Waiting Parcel) → find (is_for o.number) t.queued ≡ Some w
    → StandsBut landed act_of t entries → (w.item ≡ Apply (act_in w.item)) ⊎ (w.item ≡ Move (act_in w.item))
waits_act act_of landed o t entries w found h = its w.item (h.tidy (Queued w) (found_among (is_for o.number) t.queued w found)).1
  where
    its : (p : Parcel) → IsWaitingFor t.here w.number p → (p ≡ Apply (act_in p)) ⊎ (p ≡ Move (act_in p))
    its (Apply act) k = inl refl
    its (Move act) k = inr refl
    its _ k = absurd k

-- one that was released is sent on its way; what is left goes on
pub keeps_on : (act_of : ℕ → ℕ → ℕ → State → Act → Outcome) (n i : ℕ) (o : Id) (v l : Locality) → v ≡ l → (u fn : Tables) (letter : Parcel) (act : Act)
    (waiting : List (Waiting Parcel)) (births : ℕ) (records : List Record) → i < n → is_still l.tables o ≡ true → ((landed : Option Id) × (entries : List Entry) × StandsBut landed act_of l.tables entries)
    → releases (n - i) o l.tables ≡ fn → find (is_for o.number) v.tables.queued ≡ Some (waits o.number letter)
    → u ≡ with_act act (record v.tables { queued = waiting; births = births; records = records }) → waiting ≡ without_first o.number v.tables.queued
    → births ≡ v.tables.births → records ≡ v.tables.records → act_in letter ≡ act → ((landed : Option Id) × (entries : List Entry) × StandsBut landed act_of u entries) × (releases (n - (i + 1)) o u ≡ fn)
keeps_on act_of n i o v l view u fn letter act waiting births records lt still stands goes found e all be re is =
    let t : Tables = l.tables in
    let w : Waiting Parcel = waits o.number letter in
    let next : i + 1 ≡ suc i = omega arith in
    let first : find (is_for o.number) t.queued ≡ Some w = subst (λ (x : Locality). find (is_for o.number) x.tables.queued ≡ Some w) view found in
    let now : u ≡ one_goes o v.tables w =
    e ∙ (ap (λ q. with_act act (record v.tables { queued = q; births = births; records = records })) all
    ∙ (ap (λ b. with_act act (record v.tables { queued = without_first o.number v.tables.queued; births = b; records = records })) be
    ∙ (ap (λ r. with_act act (record v.tables { queued = without_first o.number v.tables.queued; births = v.tables.births; records = r })) re
    ∙ ap (λ a. with_act a (record v.tables { queued = without_first o.number v.tables.queued })) (sym is)))) in
    let gone : u ≡ one_goes o t w = subst (λ (x : Locality). u ≡ one_goes o x.tables w) view now in (
      (stands.0, stands.1, subst (λ x. StandsBut stands.0 act_of x stands.1) (sym gone) (one_stands act_of stands.0 o t stands.1 w still first stands.2)),
      subst (λ x. releases (n - (i + 1)) o x ≡ fn) (sym gone) (rw next (goes_one n i o t w lt still first ∙ goes)),
    )

-- ---- room for what goes on

pub deals_queued : (p : Parcel) (t t' : Tables) → DealsWith p t t' → (id : Id) (place : ℕ) → p ≡ Arrived id place → length t'.queued ≡ length t.queued
deals_queued p t t' deals id place e =
    let d : DealsWith (Arrived id place) t t' = subst (λ q. DealsWith q t t') e deals in ap (λ (v : Tables). length v.queued) d

pub accepts_queued : (p : Parcel) (t t' : Tables) → Accepts p t t' → (id : Id) (place : ℕ) → p ≡ Arrived id place → length t'.queued ≡ length t.queued
accepts_queued p t t' accepts id place e =
    let d : Accepts (Arrived id place) t t' = subst (λ q. Accepts q t t') e accepts in ap (λ (v : Tables). length v.queued) d

-- as much was made, less the message that was taken from the desk
pub made_popped : (o : Option Id) (queued n accepted desk desk' rest : ℕ) → IfSome o (λ i. queued + 1280 ≤ n) → n ≤ min (min accepted desk) rest
    → desk ≤ desk' → IfSome o (λ i. queued + 1280 ≤ min (min accepted desk') rest)
made_popped None queued n accepted desk desk' rest made h more = tt
made_popped (Some i) queued n accepted desk desk' rest made h more =
    let k = spare_popped n accepted desk desk' rest h more in omega (arith, k, made)

-- behind a message that tells that an object landed nothing follows, so there is as much memory as was made
pub room_to_go : (act_of : ℕ → ℕ → ℕ → State → Act → Outcome) (t : Tables) (queued : ℕ) (mid new : Locality) (p : Parcel) (x : Next) (o : Option Id) (a : ℕ) → o ≡ landed_in p → IsNext act_of t p x
    → ((id : Id) (place : ℕ) → p ≡ Arrived id place → length mid.tables.queued ≡ queued) → IfSome o (λ i. queued + 1280 ≤ a) → IfSome (landed_in p) (λ i. a ≤ mid.spare + 1)
    → (IfFollows x ⊥ → new ≡ mid) → IfSome o (λ i. length new.tables.queued ≤ new.spare)
room_to_go act_of t queued mid new (Arrived id place) x o a is next same made more rests =
    let e : new ≡ mid = rests (next_gives ⊥ act_of t (Arrived id place) x next (λ id entry e. absurd (cc))) in
    let m : queued + 1280 ≤ a = rw is at made in
    rw is (omega (arith, m, more, same id place refl, ap (λ (v : Locality). v.spare) e, ap (λ (v : Locality). length v.tables.queued) e))
room_to_go act_of t queued mid new p x o a is next same made more rests = rw is tt
