-- What calls on channels, latches and barriers come to keeps the laws.
use Rattle.std.specs.Prelude.{ℕ, zero, suc, ℤ, pos, Bool, true, false, List, [], ◌∷◌, ◌++◌, ◌+◌, ◌-◌, ◌*◌, ◌≤◌, ◌≡◌, ◌≢◌, ◌==◌, Option, Some, None, length, refl, if◌then◌else◌}
use Rattle.std.proofs.Common.{ap, sym, ◌∙◌, subst, arith, lit≤, length-append}
use Rattle.std.specs.List.{AllByRecursion}
use Rattle.std.proofs.lemmas.Bool.{eqb-false}
use Rattle.hpx_value.specs.Values.{refs_in}
use Rattle.hpx_value.specs.declared.value.Value.{Value as Spelled}
use Rattle.hpx_value.specs.declared.value.Value.TheVariants.{Unit as SpelledUnit, Flag as SpelledFlag, Int as SpelledInt, Text as SpelledText, Ref as SpelledRef, Fault as SpelledFault, Ints as SpelledInts}
use Rattle.hpx_value.specs.declared.value.Cont.{Cont}
use Rattle.hpx_value.specs.declared.value.State.{State}
use Rattle.hpx_value.specs.declared.value.Act.{Act}
use Rattle.hpx_value.specs.declared.outcome.Reply.{Reply}
use Rattle.hpx_value.specs.Shapes.{IsValue, AreValues, IsState, IsAct, values_size}
use Rattle.hpx_value.specs.Laws.{KeepsLaws}
use Rattle.hpx_value.specs.Kept
use Rattle.hpx_value.proofs.Kept as HandLemmas
use Rattle.hpx_calls.specs.Values.{spelled, is_small}
use Rattle.hpx_calls.specs.Requests.{Request, Set, Get, Put, Close, Down, Wait, Arrive}
use Rattle.hpx_calls.specs.Contents.{Content, Channel, Latch, Barrier, layout}
use Rattle.hpx_calls.specs.Effects.{Silent, Answers, Waits, Frees, Called}
use Rattle.hpx_calls.specs.Tables.{leaves, refuses, is_first, downs, on_latch, on_barrier, sends, sends_small, receives, closes, on_channel}
use Rattle.hpx_calls.specs.Outcomes.{numbers, cont_count, has_cont, own_reply, freed, outcome, comes_to}
use Rattle.hpx_calls.proofs.Keeps.{answers_all, waits_all, frees_all, ArePlain, TellsNoPlace, plain_keeps, kept_numbers, own_is, length-numbers}
use Rattle.hpx_calls.proofs.Shown.{IsSmall, IsChannel, small_is}
use Rattle.hpx_calls.proofs.Asked.{IsPlaced, IsFair}

-- an action on an object whose state is well formed
pub record IsCall (kind : ℕ) (s : State) (a : Act) : Type 0 where
  pub state : IsState s
  pub act : IsAct a
  pub other : TellsNoPlace kind a

-- what a call does keeps the laws
abbrev pub IsGood : ℕ → ℕ → ℕ → State → Act → Called Spelled → Type 0
IsGood n kind here s a c = KeepsLaws n kind here s a (comes_to here s a (layout spelled c.content) c.effect)

pub good_if : (n kind here : ℕ) (s : State) (a : Act) (b : Bool) (x y : Called Spelled) → (b ≡ true → IsGood n kind here s a x) → (b ≡ false → IsGood n kind here s a y)
    → IsGood n kind here s a (if b then x else y)
good_if n kind here s a true x y p q = p refl
good_if n kind here s a false x y p q = q refl

pub same_stay : (s : State) (a : Act) (vs : List Spelled) (v : Spelled) → vs ≡ s.values
    → outcome s vs (numbers 0 (length s.conts)) [] [] (own_reply s a.cont v) ≡ Kept.stays s a v
same_stay s a vs v e =
    ap (λ us. outcome s us (numbers 0 (length s.conts)) [] [] (own_reply s a.cont v)) e
    ∙ ap (λ ns. outcome s s.values ns [] [] (own_reply s a.cont v)) (kept_numbers 0 s.conts)
    ∙ ap (outcome s s.values (Kept.numbers 0 s.conts) [] []) (own_is s a.cont v)

-- the state stays, and a value without Refs is the answer
pub stay_good : (n kind here : ℕ) (s : State) (a : Act) (x : Content Spelled) (v : Spelled) → IsCall kind s a → layout spelled x ≡ s.values
    → IsValue v → refs_in (v ∷ []) ≡ [] → IsGood n kind here s a (leaves x (Answers v))
stay_good n kind here s a x v h e good plain =
    subst (KeepsLaws n kind here s a) (sym (same_stay s a (layout spelled x) v e))
    (HandLemmas.stays_keeps n kind here s a v h.state h.act good plain (λ code movable args. absurd (h.other.moves code movable args)) (λ code managed args. absurd (h.other.place code managed args)))

pub refused_good : (n kind here : ℕ) (s : State) (a : Act) (x : Content Spelled) (code : ℕ) → IsCall kind s a → layout spelled x ≡ s.values
    → 1 ≤ code → code ≤ 11 → IsGood n kind here s a (refuses spelled x code)
refused_good n kind here s a x code h e low high = stay_good n kind here s a x (SpelledFault code) h e (low, high) refl

-- nothing at all, where there is nobody to answer
pub silent_good : (n kind here : ℕ) (s : State) (a : Act) (x : Content Spelled) → IsCall kind s a → layout spelled x ≡ s.values → has_cont a.cont ≡ false
    → IsGood n kind here s a (leaves x Silent)
silent_good n kind here s a x h e none = by_cont a.cont refl none
  where
    by_cont : (c : Option Cont) → a.cont ≡ c → has_cont c ≡ false → IsGood n kind here s a (leaves x Silent)
    by_cont None f g =
        let P : List Reply → Type 0 = λ rs. KeepsLaws n kind here s a (outcome s (layout spelled x) (numbers 0 (length s.conts)) [] [] rs) in
        subst P (ap (λ c. own_reply s c SpelledUnit) f) (stay_good n kind here s a x SpelledUnit h e tt refl)
    by_cont (Some c) f g = absurd (cc)

pub own_plain : (s : State) (cont : Option Cont) (v : Spelled) → IsValue v → refs_in (v ∷ []) ≡ [] → ArePlain (own_reply s cont v)
own_plain s None v h e = tt
own_plain s (Some c) v h e = (h, e, tt)

freed_plain : (s : State) (cont : Option Cont) (v u : Spelled) (n count : ℕ) → IsValue v → refs_in (v ∷ []) ≡ [] → IsValue u → refs_in (u ∷ []) ≡ []
    → ArePlain (freed v n count ++ own_reply s cont u)
freed_plain s cont v u n zero h e i f = own_plain s cont u i f
freed_plain s cont v u n (suc count) h e i f = (h, e, freed_plain s cont v u (n + 1) count h e i f)

few_own : (cont : Option Cont) → cont_count cont ≤ 1
few_own None = lit≤ tt
few_own (Some c) = lit≤ tt

-- values without Refs, so short that any kept continuations fit beside them
pub record ArePlainValues (vs : List Spelled) : Type 0 where
  pub refs : refs_in vs ≡ []
  pub values : AreValues vs
  pub short : values_size vs ≤ 62000

-- a new content without Refs, and an answer, a wait, or answers to those that wait longest
pub answers_good : (n kind here : ℕ) (s : State) (a : Act) (x : Content Spelled) (v : Spelled) → IsCall kind s a → length s.conts ≤ 100
    → ArePlainValues (layout spelled x) → IsValue v → refs_in (v ∷ []) ≡ [] → IsGood n kind here s a (leaves x (Answers v))
answers_good n kind here s a x v h few vs good plain =
    let long = length-numbers 0 (length s.conts) in
    let short = vs.short in
    plain_keeps n kind here s a (layout spelled x) (numbers 0 (length s.conts)) (own_reply s a.cont v) h.state h.act h.other vs.refs vs.values (omega arith) (omega arith)
    (own_plain s a.cont v good plain) (answers_all s a v)

pub waits_good : (n kind here : ℕ) (s : State) (a : Act) (x : Content Spelled) → IsCall kind s a → length s.conts ≤ 100
    → ArePlainValues (layout spelled x) → IsGood n kind here s a (leaves x Waits)
waits_good n kind here s a x h few vs =
    let long = length-numbers 0 (length s.conts + cont_count a.cont) in
    let own = few_own a.cont in
    let short = vs.short in
    plain_keeps n kind here s a (layout spelled x) (numbers 0 (length s.conts + cont_count a.cont)) [] h.state h.act h.other vs.refs vs.values (omega arith) (omega arith)
    tt (waits_all s a)

pub frees_good : (n kind here : ℕ) (s : State) (a : Act) (x : Content Spelled) (count : ℕ) (v u : Spelled) → IsCall kind s a → length s.conts ≤ 100 → count ≤ length s.conts
    → ArePlainValues (layout spelled x) → IsValue v → refs_in (v ∷ []) ≡ [] → IsValue u → refs_in (u ∷ []) ≡ [] → IsGood n kind here s a (leaves x (Frees count v u))
frees_good n kind here s a x count v u h few low vs good plain fine bare =
    let long = length-numbers count (length s.conts - count) in
    let short = vs.short in
    plain_keeps n kind here s a (layout spelled x) (numbers count (length s.conts - count)) (freed v 0 count ++ own_reply s a.cont u) h.state h.act h.other vs.refs vs.values
    (omega arith) (omega arith) (freed_plain s a.cont v u 0 count good plain fine bare) (frees_all s a count v u low)

pub one_int : (z : ℤ) → ArePlainValues (SpelledInt z ∷ [])
one_int z = record { refs = refl; values = record { few = lit≤ tt; each = (tt, tt) }; short = lit≤ tt }

-- ---- latches

downs_good : (n kind here : ℕ) (s : State) (a : Act) (left : ℕ) → IsCall kind s a → layout spelled (Latch left) ≡ s.values → length s.conts ≤ 100
    → IsGood n kind here s a (downs spelled (length s.conts) left)
downs_good n kind here s a left h e few =
    good_if n kind here s a (left == 0) _ _ (λ f. refused_good n kind here s a (Latch left) 9 h e (lit≤ tt) (lit≤ tt)) (λ f.
    good_if n kind here s a (left == 1) _ _
    (λ g. frees_good n kind here s a (Latch 0) (length s.conts) SpelledUnit SpelledUnit h few (omega arith) (one_int (pos 0)) tt refl tt refl)
    (λ g. answers_good n kind here s a (Latch (left - 1)) SpelledUnit h few (one_int (pos (left - 1))) tt refl))

wait_good : (n kind here : ℕ) (s : State) (a : Act) (left : ℕ) → IsCall kind s a → layout spelled (Latch left) ≡ s.values → length s.conts ≤ 100
    → IsGood n kind here s a (on_latch spelled (length s.conts) left Wait)
wait_good n kind here s a left h e few =
    good_if n kind here s a (left == 0) _ _ (λ f. stay_good n kind here s a (Latch left) SpelledUnit h e tt refl) (λ f.
    good_if n kind here s a (length s.conts == 100) _ _ (λ g. refused_good n kind here s a (Latch left) 10 h e (lit≤ tt) (lit≤ tt))
    (λ g. waits_good n kind here s a (Latch left) h few (one_int (pos left))))

pub latch_good : (n kind here : ℕ) (s : State) (a : Act) (left : ℕ) (r : Request Spelled) → IsCall kind s a → layout spelled (Latch left) ≡ s.values → length s.conts ≤ 100
    → IsGood n kind here s a (on_latch spelled (length s.conts) left r)
latch_good n kind here s a left Down h e few = downs_good n kind here s a left h e few
latch_good n kind here s a left Wait h e few = wait_good n kind here s a left h e few
latch_good n kind here s a left _ h e few = refused_good n kind here s a (Latch left) 11 h e (lit≤ tt) (lit≤ tt)

-- ---- barriers

arrive_good : (n kind here : ℕ) (s : State) (a : Act) (size : ℕ) → IsCall kind s a → length s.conts ≤ 100
    → IsGood n kind here s a (on_barrier spelled (length s.conts) size Arrive)
arrive_good n kind here s a size h few =
    good_if n kind here s a (length s.conts + 1 == size) _ _
    (λ f. frees_good n kind here s a (Barrier size) (length s.conts) SpelledUnit SpelledUnit h few (omega arith) (one_int (pos size)) tt refl tt refl)
    (λ f. waits_good n kind here s a (Barrier size) h few (one_int (pos size)))

pub barrier_good : (n kind here : ℕ) (s : State) (a : Act) (size : ℕ) (r : Request Spelled) → IsCall kind s a → layout spelled (Barrier size) ≡ s.values → length s.conts ≤ 100
    → IsGood n kind here s a (on_barrier spelled (length s.conts) size r)
barrier_good n kind here s a size Arrive h e few = arrive_good n kind here s a size h few
barrier_good n kind here s a size _ h e few = refused_good n kind here s a (Barrier size) 11 h e (lit≤ tt) (lit≤ tt)

-- ---- channels

smalls_refs : (vs : List Spelled) → AllByRecursion IsSmall vs → refs_in vs ≡ []
smalls_refs [] h = refl
smalls_refs (SpelledUnit ∷ vs) h = smalls_refs vs h.1
smalls_refs (SpelledFlag b ∷ vs) h = smalls_refs vs h.1
smalls_refs (SpelledInt z ∷ vs) h = smalls_refs vs h.1
smalls_refs (SpelledText t ∷ vs) h = smalls_refs vs h.1
smalls_refs (SpelledRef p ∷ vs) h = let bare = h.0.refs in absurd (cc)
smalls_refs (SpelledFault c ∷ vs) h = smalls_refs vs h.1
smalls_refs (SpelledInts zs ∷ vs) h = smalls_refs vs h.1

smalls_size : (vs : List Spelled) → AllByRecursion IsSmall vs → values_size vs ≤ 35 * length vs
smalls_size [] h = omega arith
smalls_size (v ∷ vs) h = let first = h.0.size in let rest = smalls_size vs h.1 in omega arith

smalls_values : (vs : List Spelled) → AllByRecursion IsSmall vs → AllByRecursion IsValue vs
smalls_values [] h = tt
smalls_values (v ∷ vs) h = (h.0.value, smalls_values vs h.1)

smalls_more : (vs : List Spelled) (v : Spelled) → AllByRecursion IsSmall vs → IsSmall v → AllByRecursion IsSmall (vs ++ v ∷ [])
smalls_more [] v h i = (i, tt)
smalls_more (u ∷ vs) v h i = (h.0, smalls_more vs v h.1 i)

channel_plain : (b : Bool) (vs : List Spelled) → AllByRecursion IsSmall vs → length vs ≤ 1000 → ArePlainValues (SpelledFlag b ∷ vs)
channel_plain b vs h few =
    let size = smalls_size vs h in
    record { refs = smalls_refs vs h; values = record { few = omega arith; each = (tt, smalls_values vs h) }; short = omega arith }

sends_good : (n kind here : ℕ) (s : State) (a : Act) (w : ℕ) (b : Bool) (kept : List Spelled) (v : Spelled) → IsCall kind s a → layout spelled (Channel b kept) ≡ s.values
    → w ≡ length s.conts → IsChannel w b kept → IsSmall v → IsGood n kind here s a (sends spelled w b kept v)
sends_good n kind here s a w true kept v h e same bound small = refused_good n kind here s a (Channel true kept) 8 h e (lit≤ tt) (lit≤ tt)
sends_good n kind here s a zero false kept v h e same bound small =
    let few = bound.few in
    good_if n kind here s a (length kept == 1000) _ _ (λ f. refused_good n kind here s a (Channel false kept) 10 h e (lit≤ tt) (lit≤ tt))
    (λ f. let room = eqb-false (length kept) 1000 f in let long = length-append kept (v ∷ []) in
    answers_good n kind here s a (Channel false (kept ++ v ∷ [])) SpelledUnit h (omega arith)
    (channel_plain false (kept ++ v ∷ []) (smalls_more kept v bound.small small) (room_left (length kept) (length (kept ++ v ∷ [])) few room long)) tt refl)
  where
    room_left : (k m : ℕ) → k ≤ 1000 → k ≢ 1000 → m ≡ k + 1 → m ≤ 1000
    room_left k m p q r = omega arith
sends_good n kind here s a (suc w) false kept v h e same bound small =
    let waiting = bound.waiting in
    frees_good n kind here s a (Channel false kept) 1 v SpelledUnit h (omega arith) (omega arith) (channel_plain false kept bound.small bound.few) small.value small.refs tt refl

small_good : (n kind here : ℕ) (s : State) (a : Act) (b : Bool) (kept : List Spelled) (v : Spelled) → IsCall kind s a → layout spelled (Channel b kept) ≡ s.values
    → IsChannel (length s.conts) b kept → IsGood n kind here s a (sends_small spelled (length s.conts) b kept v)
small_good n kind here s a b kept v h e bound =
    good_if n kind here s a (is_small (spelled.look v)) _ _ (λ f. sends_good n kind here s a (length s.conts) b kept v h e refl bound (small_is v f))
    (λ f. refused_good n kind here s a (Channel b kept) 11 h e (lit≤ tt) (lit≤ tt))

receives_good : (n kind here : ℕ) (s : State) (a : Act) (b : Bool) (kept : List Spelled) → IsCall kind s a → layout spelled (Channel b kept) ≡ s.values
    → IsChannel (length s.conts) b kept → IsGood n kind here s a (receives spelled (length s.conts) b kept)
receives_good n kind here s a b (v ∷ rest) h e bound =
    let few = bound.few in
    answers_good n kind here s a (Channel b rest) v h bound.waiting (channel_plain b rest bound.small.1 (omega arith)) bound.small.0.value bound.small.0.refs
receives_good n kind here s a true [] h e bound = refused_good n kind here s a (Channel true []) 8 h e (lit≤ tt) (lit≤ tt)
receives_good n kind here s a false [] h e bound =
    good_if n kind here s a (length s.conts == 100) _ _ (λ g. refused_good n kind here s a (Channel false []) 10 h e (lit≤ tt) (lit≤ tt))
    (λ g. waits_good n kind here s a (Channel false []) h bound.waiting (channel_plain false [] tt (lit≤ tt)))

closes_good : (n kind here : ℕ) (s : State) (a : Act) (b : Bool) (kept : List Spelled) → IsCall kind s a → layout spelled (Channel b kept) ≡ s.values
    → IsChannel (length s.conts) b kept → IsGood n kind here s a (closes spelled (length s.conts) b kept)
closes_good n kind here s a true kept h e bound = refused_good n kind here s a (Channel true kept) 8 h e (lit≤ tt) (lit≤ tt)
closes_good n kind here s a false kept h e bound =
    frees_good n kind here s a (Channel true kept) (length s.conts) (SpelledFault 8) SpelledUnit h bound.waiting (omega arith) (channel_plain true kept bound.small bound.few)
    (lit≤ tt, lit≤ tt) refl tt refl

pub channel_good : (n kind here : ℕ) (s : State) (a : Act) (b : Bool) (kept : List Spelled) (r : Request Spelled) → IsCall kind s a → layout spelled (Channel b kept) ≡ s.values
    → IsChannel (length s.conts) b kept → IsFair (IsPlaced (length s.ids) (length s.ids + length a.ids)) (has_cont a.cont) r → IsGood n kind here s a (on_channel spelled (length s.conts) b kept r)
channel_good n kind here s a b kept (Set slot v) h e bound fair =
    good_if n kind here s a (is_first slot) _ _ (λ f. small_good n kind here s a b kept v h e bound) (λ f. silent_good n kind here s a (Channel b kept) h e fair.1)
channel_good n kind here s a b kept (Put v) h e bound fair = small_good n kind here s a b kept v h e bound
channel_good n kind here s a b kept Get h e bound fair = receives_good n kind here s a b kept h e bound
channel_good n kind here s a b kept Close h e bound fair = closes_good n kind here s a b kept h e bound
channel_good n kind here s a b kept _ h e bound fair = refused_good n kind here s a (Channel b kept) 11 h e (lit≤ tt) (lit≤ tt)
