-- What a commit leaves that deals a stock: as well formed as what the outcome leaves, and few.
use Rattle.std.proofs.Common.{ℕ, suc, List, [], ◌∷◌, ◌++◌, ◌≡◌, ◌+◌, ◌≤◌, ◌==◌, ◌&&◌, Option, Some, None, length, length-append, map, append-nil, refl, sym, ap, ◌∙◌, arith, inl, inr, lit≤}
use Rattle.std.specs.Prelude.{flat_map}
use Rattle.std.specs.List.{AllByRecursion}
use Rattle.std.proofs.lemmas.Bool.{cases_Bool}
use Rattle.std.proofs.lemmas.List.{length-map}
use Rattle.std.proofs.lemmas.List.Sums.{length-filter, count_by-le-length}
use Rattle.hpx_value.specs.Ids.{Id, bare}
use Rattle.hpx_value.specs.Values.{refs_in, bare_act, bare_state, bare_message}
use Rattle.hpx_value.specs.Shapes.{IsState, IsAct, listed}
use Rattle.hpx_value.specs.Hands.{conts_from, hand_slot, renumbered, id_at, hand_ids, hand_slots, sent, state_after}
use Rattle.hpx_value.specs.Laws.{KeepsLaws, UsesEachOnce, uses, handed_on, answered}
use Rattle.hpx_value.specs.Riders.{mentions_with, due_with, rode}
use Rattle.hpx_value.proofs.Uses.{used_below, used_few}
use Rattle.hpx_value.proofs.Kept.{length-hand_slots}
use Rattle.hpx_commit.specs.Deals.{is_managed, named, dealt, filled, unused, filled_due, ids_due, places_named, unnamed, unnamed_from, AreWithin}
use Rattle.hpx_commit.specs.Stocks.{Stock, SameNames}
use Rattle.hpx_commit.proofs.BareHands.{due-bare, state-bare}
use Rattle.hpx_commit.proofs.Common.{Cont, State, Act, Message, Reply, Outcome, Make, Due, MessageDue, PrintDue}
use Rattle.hpx_commit.proofs.Deals.{names_dealt}
use Rattle.hpx_commit.proofs.DueFilled.{managed_append, due_same, length-filled, length-filled_due, state_filled, due_each}
use Rattle.hpx_commit.proofs.Fills.{Fits, filled_same, unused_rest, filled_all, unused_all}
use Rattle.hpx_commit.proofs.HandFit.{state_right}
use Rattle.hpx_commit.proofs.Lists.{none_long}
use Rattle.hpx_commit.proofs.Naming.{managed, names_match, places_within}
use Rattle.hpx_commit.proofs.Places.{kind_of}
use Rattle.hpx_commit.proofs.Ridden.{long_with}
use Rattle.hpx_commit.proofs.Rights.{AreRight, right_dealt, unnamed_has}

-- ---- how much

length-answered : (xs : List Reply) → length (answered xs) ≡ length xs
length-answered [] = refl
length-answered (x ∷ xs) = ap suc (length-answered xs)

pub listed_few : (c : Option Cont) → length (listed c) ≤ 1
listed_few None = lit≤ tt
listed_few (Some c) = lit≤ tt

pub action_few : (a : Act) → IsAct a → length a.ids ≤ 34
action_few a h = omega (arith, h.ids, h.few_refs, listed_few a.cont)

-- a hand has few continuations, and each is answered once at most
pub few_replies : (s : State) (a : Act) (out : Outcome) → IsState s → UsesEachOnce (length (hand_slots s a)) (uses out) → length out.replies ≤ 129
few_replies s a out h once =
    let ids = h.ids in
    let few = h.few in
    omega (
      arith,
      used_few (length (hand_slots s a)) (uses out) once,
      length-hand_slots s a,
      length-append s.conts (listed a.cont),
      listed_few a.cont,
      length-append out.state.conts (handed_on out.sends ++ answered out.replies),
      length-append (handed_on out.sends) (answered out.replies),
      length-answered out.replies,
    )

pub few_due : (s : State) (a : Act) (made : List Id) (out : Outcome) → length out.sends ≤ 32 → length out.replies ≤ 129 → length out.prints ≤ 16
    → length (due_with s a made out) ≤ 177
few_due s a made out h i j =
    omega (
      arith,
      length-append (map (λ x. MessageDue (sent s a made x)) out.sends) (map (λ x. MessageDue (rode s a made out x)) out.replies ++ map PrintDue out.prints),
      length-append (map (λ x. MessageDue (rode s a made out x)) out.replies) (map PrintDue out.prints),
      length-map out.sends (λ x. MessageDue (sent s a made x)),
      length-map out.replies (λ x. MessageDue (rode s a made out x)),
      length-map out.prints PrintDue,
    )

unnamed_few : (p : ℕ) (ids : List Id) (ps : List ℕ) → length (unnamed_from p ids ps) ≤ length ids
unnamed_few p [] ps = omega arith
unnamed_few p (id ∷ ids) ps = elim (cases_Bool (is_managed id && (named ps p == 0))) [
  | inl t ↦ rw t (omega (arith, unnamed_few (p + 1) ids ps))
  | inr t ↦ rw t (omega (arith, unnamed_few (p + 1) ids ps))
]

-- ---- the hand of an outcome that keeps the laws

module _ (n kind here : ℕ) (s : State) (a : Act) (out : Outcome) (laws : KeepsLaws n kind here s a out) (made : List Id)
    (kinds : map kind_of made ≡ map (λ (x : Make). x.kind) out.makes) where
  pub made_long : length made ≡ length out.makes
  made_long = sym (length-map made kind_of) ∙ (ap (λ (ks : List ℕ). length ks) kinds ∙ length-map out.makes (λ (x : Make). x.kind))

  pub own_within : AreWithin (hand_ids s a made) (places_named s a made out)
  own_within = places_within s a made out made_long laws.names.places

  pub own_few : IsState s → IsAct a → length (hand_ids s a made) ≤ 194
  own_few state action = omega (
    arith,
    laws.few.makes,
    made_long,
    state.few,
    action_few a action,
    length-append s.ids (a.ids ++ made),
    length-append a.ids made,
  )

  pub own_places : length (places_named s a made out) ≤ 193
  own_places = omega (
    arith,
    laws.names.all,
    long_with s a out laws.conts,
    length-filter (λ p. is_managed (id_at (hand_ids s a made) p)) (mentions_with s a out),
    count_by-le-length (λ p. is_managed (id_at (hand_ids s a made) p)) (mentions_with s a out),
  )

-- ---- an object of kind Plain, which keeps nothing

pub no_ids : (s : State) → IsState s → s.values ≡ [] → s.conts ≡ [] → s.ids ≡ []
no_ids s fit values conts = none_long s.ids (omega (arith, fit.ids, ap (λ vs. length (refs_in vs)) values, ap (λ cs. length cs) conts))

same_state : (s u : State) → s.drawn ≡ u.drawn → s.values ≡ u.values → s.conts ≡ u.conts → s.ids ≡ u.ids → s ≡ u
same_state s u drawn values conts ids =
    ap (λ x. record { drawn = x; values = s.values; conts = s.conts; ids = s.ids }) drawn
    ∙ (ap (λ x. record { drawn = u.drawn; values = x; conts = s.conts; ids = s.ids }) values
    ∙ (ap (λ x. record { drawn = u.drawn; values = u.values; conts = x; ids = s.ids }) conts
    ∙ ap (λ x. record { drawn = u.drawn; values = u.values; conts = u.conts; ids = x }) ids))

-- ---- what is planned

abbrev pub state_of : State → Act → List Id → Outcome → List Id → State
state_of s a made out ds = record (state_after s a made out) { ids = filled (state_after s a made out).ids ds }

abbrev pub due_from : State → Act → List Id → Outcome → List Id → List Due
due_from s a made out ds = filled_due (due_with s a made out) (unused (state_after s a made out).ids ds)

-- it keeps nothing, and is as another
pub record IsPlain (s t : State) : Type 0 where
  pub values : t.values ≡ []
  pub conts : t.conts ≡ []
  pub same : t ≡ s

-- it is well formed and has its credits, as what the outcome leaves; without credits it is what the outcome leaves; and it is few
pub record IsPlanned (P Q : Id → Type 0) (D : Due → Type 0) (g : Due → Due) (kind : ℕ) (s : State) (a : Act) (made : List Id) (out : Outcome) (u : Stock) : Type 0 where
  pub names : Fits (state_after s a made out).ids (dealt u.hand u.places) (managed (map bare (flat_map ids_due (due_with s a made out))))
  pub state_had : AllByRecursion P (state_after s a made out).ids
  pub due_had : AllByRecursion D (due_with s a made out)
  pub deals : AllByRecursion P (dealt u.hand u.places)
  pub state_left : bare_state (state_of s a made out (dealt u.hand u.places)) ≡ state_after (bare_state s) (bare_act a) (map bare made) out
  pub due_left : map g (due_from s a made out (dealt u.hand u.places)) ≡ due_with (bare_state s) (bare_act a) (map bare made) out
  pub state_fit : IsState (state_of s a made out (dealt u.hand u.places))
  pub state_has : AllByRecursion P (state_of s a made out (dealt u.hand u.places)).ids
  pub due_may : AllByRecursion D (due_from s a made out (dealt u.hand u.places))
  pub ups_has : AllByRecursion Q (unnamed u.hand u.places)
  pub replies_few : length out.replies ≤ 129
  pub due_few : length (due_from s a made out (dealt u.hand u.places)) ≤ 177
  pub ups_few : length (unnamed u.hand u.places) ≤ 194
  pub plain : kind ≡ 7 → s.values ≡ [] → s.conts ≡ [] → IsPlain s (state_of s a made out (dealt u.hand u.places))

module _ (P Q : Id → Type 0) (are : AreRight P Q) (D : Due → Type 0) (g : Due → Due)
    (message : (m : Message) → g (MessageDue m) ≡ MessageDue (bare_message m)) (print : (bytes : List ℕ) → g (PrintDue bytes) ≡ PrintDue bytes)
    (prints : (bytes : List ℕ) → D (PrintDue bytes))
    (fills : (m : Message) (ids : List Id) → map bare ids ≡ map bare m.ids → length ids ≡ length m.ids → (AllByRecursion P m.ids → AllByRecursion P ids)
    → D (MessageDue m) → D (MessageDue (record m { ids = ids })))
    (n kind here : ℕ) (s : State) (a : Act) (out : Outcome) (laws : KeepsLaws n kind here s a out) (few : n ≤ 64) (state : IsState s) (action : IsAct a)
    (made : List Id) (kinds : map kind_of made ≡ map (λ (x : Make). x.kind) out.makes)
    (credit : AllByRecursion P s.ids) (own : AllByRecursion P a.ids) (born : AllByRecursion P made) (fits : AllByRecursion D (due_with s a made out))
    (u : Stock) (same : SameNames (record { hand = hand_ids s a made; places = places_named s a made out }) u) (right : AllByRecursion P u.hand) where
  abbrev deals : List Id
  deals = dealt u.hand u.places

  abbrev old : State
  old = state_after s a made out

  abbrev due : List Due
  due = due_with s a made out

  -- what is dealt names the managed ids of the new state, and then those of what is due
  names : Fits old.ids deals (managed (map bare (flat_map ids_due due)))
  names =
      names_dealt u.hand u.places
      ∙ (same.names ∙ sym (names_match s a made state action n out (used_below (length (hand_slots s a)) (uses out) laws.conts) laws.roots)
      ∙ managed_append old.ids (flat_map ids_due due))

  names_due : Fits (flat_map ids_due due) (unused old.ids deals) []
  names_due = unused_rest old.ids deals (managed (map bare (flat_map ids_due due))) names ∙ sym (append-nil (managed (map bare (flat_map ids_due due))))

  has : AllByRecursion P deals
  has = right_dealt P Q are u.hand u.places right

  had : AllByRecursion P old.ids
  had = state_right P Q are n kind here s a out laws few made kinds credit own born

  state_fits : IsState (state_of s a made out (dealt u.hand u.places))
  state_fits = state_filled old (filled old.ids deals) (length-filled old.ids deals) (laws.shapes.state made)

  plain_is : kind ≡ 7 → s.values ≡ [] → s.conts ≡ [] → IsPlain s (state_of s a made out (dealt u.hand u.places))
  plain_is is values conts =
      let now = state_of s a made out (dealt u.hand u.places) in
      let no_values : (state_of s a made out (dealt u.hand u.places)).values ≡ [] = ap (renumbered 0) (laws.plain is values conts).0 in
      let no_conts : (state_of s a made out (dealt u.hand u.places)).conts ≡ [] =
      ap (λ ns. conts_from (length (refs_in out.state.values)) (map (hand_slot s a) ns)) (laws.plain is values conts).1 in record {
        values = no_values;
        conts = no_conts;
        same = same_state now s (omega (arith, laws.slots.counted, ap (λ ns. length ns) (laws.slots.session (λ e. absurd (omega (arith, e, is))))))
            (no_values ∙ sym values) (no_conts ∙ sym conts) (no_ids now state_fits no_values no_conts ∙ sym (no_ids s state values conts));
      }

  replies : length out.replies ≤ 129
  replies = few_replies s a out state laws.conts

  pub planned : IsPlanned P Q D g kind s a made out u
  planned = record {
    names = names;
    state_had = had;
    due_had = fits;
    deals = has;
    state_left = ap (λ ids. record { drawn = old.drawn; values = old.values; conts = old.conts; ids = ids })
        (filled_same old.ids deals (managed (map bare (flat_map ids_due due))) names) ∙ sym (state-bare s a made out);
    due_left = due_same g message print due (unused old.ids deals) [] names_due ∙ sym (due-bare s a made g message print out);
    state_fit = state_fits;
    state_has = filled_all P old.ids deals had has;
    due_may = due_each P D prints fills due (unused old.ids deals) [] names_due (unused_all P old.ids deals has) fits;
    ups_has = unnamed_has P Q are 0 u.hand u.places right;
    replies_few = replies;
    due_few = omega (arith, few_due s a made out laws.few.sends replies laws.few.prints, length-filled_due due (unused old.ids deals));
    -- nobody names what nobody named in the hand
    ups_few = omega (
      arith,
      own_few n kind here s a out laws made kinds state action,
      unnamed_few 0 (hand_ids s a made) (places_named s a made out),
      ap (λ (xs : List Id). length xs) same.left,
    );
    plain = plain_is;
  }
