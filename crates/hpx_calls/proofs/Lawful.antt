-- Actions keep the laws, whatever the state.
use Rattle.std.specs.Prelude.{ℕ, Bool, true, false, nat_le, List, ◌+◌, ◌<◌, ◌≡◌, ◌≢◌, ◌==◌, ◌&&◌, ◌||◌, [], nat_lt, Option, Some, None, length, pos, refl, if◌then◌else◌}
use Rattle.std.proofs.Common.{ap, sym, ◌∙◌, subst, arith, lit≤}
use Rattle.std.proofs.lemmas.Bool.{le-leb, leb-false, lt-ltb, eqb-true}
use Rattle.hpx_value.specs.declared.value.Value.{Value as Spelled}
use Rattle.hpx_value.specs.declared.value.Value.TheVariants.{Int as SpelledInt}
use Rattle.hpx_value.specs.declared.value.State.{State}
use Rattle.hpx_value.specs.declared.value.Act.{Act}
use Rattle.hpx_value.specs.Shapes.{IsState, IsAct}
use Rattle.hpx_value.specs.Laws.{IsMovable, MovesBelow, KeepsLaws}
use Rattle.hpx_value.proofs.Kept as HandLemmas
use Rattle.hpx_calls.specs.Values.{spelled}
use Rattle.hpx_calls.specs.Requests.{Request, Move, Where, Set, New, Register, Resolve, Unregister, Keys, Count, Add, Query, Reset, Step, Get, Put, PutAt, Close, Down, Wait, Arrive, Other}
use Rattle.hpx_calls.specs.Contents
use Rattle.hpx_calls.specs.Contents.{Content, layout, Unreadable, or_unreadable}
use Rattle.hpx_calls.specs.Effects.{Answers}
use Rattle.hpx_calls.specs.Tables.{leaves, on_content, on_object, called, awaits, is_movable}
use Rattle.hpx_calls.specs.Outcomes.{has_cont, request_in, outcome_of}
use Rattle.hpx_calls.proofs.Keeps.{TellsNoPlace}
use Rattle.hpx_calls.proofs.Shown.{Shows, IsBound, promise_values, latch_values, barrier_values, channel_values, dataflow_values, table_values, maker_values, size_values, number_values, row_values}
use Rattle.hpx_calls.proofs.Asked.{IsPlaced, IsFair, asked_fair, asks_where, asks_moving}
use Rattle.hpx_calls.proofs.Promised.{empty_good, full_good}
use Rattle.hpx_calls.proofs.Named.{served_table, maker_good, size_good}
use Rattle.hpx_calls.proofs.Moved.{number_good, row_good}
use Rattle.hpx_calls.proofs.Flows.{dataflow_good, started_good}
use Rattle.hpx_calls.proofs.Controls.{IsCall, IsGood, good_if, same_stay, refused_good, silent_good, latch_good, barrier_good, channel_good}

-- it asks neither where nor to move
abbrev IsOther : Request Spelled → Type 0
IsOther Where = ⊥
IsOther (Move to) = ⊥
IsOther _ = Unit {0}

-- what such an action is not, and one that moves nothing
moves_not : (kind : ℕ) (s : State) (a : Act) (r : Request Spelled) → request_in s a ≡ r → IsOther r → a.code ≡ 1 → MovesBelow 64 a.args → ⊥
moves_not kind s a r e other code args =
    let P : Request Spelled → Type 0 = IsOther in
    let is : r ≡ Move args.0 = sym e ∙ asks_moving s a args.0 code args.1 args.2 in
    subst P is other

place_not : (s : State) (a : Act) (r : Request Spelled) → request_in s a ≡ r → (r ≡ Where → ⊥) → a.code ≡ 2 → a.args ≡ [] → ⊥
place_not s a r e other code args = other (sym e ∙ asks_where s a code args)

not_where : (r : Request Spelled) → IsOther r → r ≡ Where → ⊥
not_where r other e = let P : Request Spelled → Type 0 = IsOther in subst P e other

no_place : (kind : ℕ) (s : State) (a : Act) (r : Request Spelled) → kind ≢ 7 → request_in s a ≡ r → IsOther r → TellsNoPlace kind a
no_place kind s a r high e other = record {
  moves = λ code movable args. moves_not kind s a r e other code args;
  place = λ code managed args. place_not s a r e (not_where r other) code args;
  plain = high;
}

-- a kind that does not move, asked to move
stands : (kind : ℕ) (s : State) (a : Act) (to : ℕ) → kind ≢ 7 → request_in s a ≡ Move to → is_movable kind ≡ false → TellsNoPlace kind a
stands kind s a to high e fixed = record {
  moves = λ code movable args. not_movable movable;
  place = λ code managed args. place_not s a (Move to) e (differs (Move to) refl) code args;
  plain = high;
}
  where
    differs : (r : Request Spelled) → r ≡ Move to → r ≡ Where → ⊥
    differs r e is = cc

    not_movable : IsMovable kind → ⊥
    not_movable movable =
        let most = movable.1 in
        let is : is_movable kind ≡ true = ap (λ (b : Bool). b && nat_lt kind 32) (le-leb 16 kind movable.0) ∙ lt-ltb kind 32 (omega arith) in
        let both : true ≡ false = sym is ∙ fixed in
        cc

-- a root, asked where it is
unmanaged : (kind : ℕ) (s : State) (a : Act) → kind ≢ 7 → request_in s a ≡ Where → nat_le 16 kind ≡ false → TellsNoPlace kind a
unmanaged kind s a high e low = record {
  moves = λ code movable args. let less = leb-false 16 kind low in let most = movable.0 in absurd (omega arith);
  place = λ code managed args. let less = leb-false 16 kind low in let most = managed.0 in absurd (omega arith);
  plain = high;
}

-- an answer that tells the place
place_good : (n kind here : ℕ) (s : State) (a : Act) (x : Content Spelled) → IsState s → IsAct a → layout spelled x ≡ s.values → IsGood n kind here s a (leaves x (Answers (SpelledInt (pos here))))
place_good n kind here s a x h act e =
    subst (KeepsLaws n kind here s a) (sym (same_stay s a (layout spelled x) (SpelledInt (pos here)) e))
    (HandLemmas.stays_keeps n kind here s a (SpelledInt (pos here)) h act tt refl (λ code movable args. HandLemmas.stays_tells here s a) (λ code managed args. HandLemmas.stays_tells here s a))

-- what a content that is shown does with what is asked; who asks for an answer to come waits for it
abbrev pub IsServed : ℕ → ℕ → ℕ → State → Act → Content Spelled → Type 0
IsServed n kind here s a x = (r : Request Spelled) → IsCall kind s a → IsFair (IsPlaced (length s.ids) (length s.ids + length a.ids)) (has_cont a.cont) r
    → (awaits r ≡ true → has_cont a.cont ≡ true) → IsGood n kind here s a (on_content spelled (length s.conts) x r)

object_good : (n kind here : ℕ) (s : State) (a : Act) (x : Content Spelled) (r : Request Spelled) → kind ≢ 7 → IsState s → IsAct a → layout spelled x ≡ s.values
    → IsServed n kind here s a x → request_in s a ≡ r → IsFair (IsPlaced (length s.ids) (length s.ids + length a.ids)) (has_cont a.cont) r
    → (awaits r ≡ true → has_cont a.cont ≡ true) → IsGood n kind here s a (on_object spelled here kind (length s.conts) x r)
object_good n kind here s a x Where high h act e served asked fair waits =
    good_if n kind here s a (nat_le 16 kind) _ _ (λ f. place_good n kind here s a x h act e)
    (λ f. refused_good n kind here s a x 11 (record { state = h; act = act; other = unmanaged kind s a high asked f }) e (lit≤ tt) (lit≤ tt))
object_good n kind here s a x (Move to) high h act e served asked fair waits =
    good_if n kind here s a (is_movable kind) _ _ (λ f. place_good n kind here s a x h act e)
    (λ f. refused_good n kind here s a x 11 (record { state = h; act = act; other = stands kind s a to high asked f }) e (lit≤ tt) (lit≤ tt))
object_good n kind here s a x (Set slot v) high h act e served asked fair waits = served (Set slot v) (record { state = h; act = act; other = no_place kind s a (Set slot v) high asked tt }) fair waits
object_good n kind here s a x (New name vs) high h act e served asked fair waits = served (New name vs) (record { state = h; act = act; other = no_place kind s a (New name vs) high asked tt }) fair waits
object_good n kind here s a x (Register key to) high h act e served asked fair waits = served (Register key to) (record { state = h; act = act; other = no_place kind s a (Register key to) high asked tt }) fair waits
object_good n kind here s a x (Resolve key) high h act e served asked fair waits = served (Resolve key) (record { state = h; act = act; other = no_place kind s a (Resolve key) high asked tt }) fair waits
object_good n kind here s a x (Unregister key) high h act e served asked fair waits = served (Unregister key) (record { state = h; act = act; other = no_place kind s a (Unregister key) high asked tt }) fair waits
object_good n kind here s a x Keys high h act e served asked fair waits = served Keys (record { state = h; act = act; other = no_place kind s a Keys high asked tt }) fair waits
object_good n kind here s a x Count high h act e served asked fair waits = served Count (record { state = h; act = act; other = no_place kind s a Count high asked tt }) fair waits
object_good n kind here s a x (Add z) high h act e served asked fair waits = served (Add z) (record { state = h; act = act; other = no_place kind s a (Add z) high asked tt }) fair waits
object_good n kind here s a x Query high h act e served asked fair waits = served Query (record { state = h; act = act; other = no_place kind s a Query high asked tt }) fair waits
object_good n kind here s a x Reset high h act e served asked fair waits = served Reset (record { state = h; act = act; other = no_place kind s a Reset high asked tt }) fair waits
object_good n kind here s a x (Step left right) high h act e served asked fair waits = served (Step left right) (record { state = h; act = act; other = no_place kind s a (Step left right) high asked tt }) fair waits
object_good n kind here s a x Get high h act e served asked fair waits = served Get (record { state = h; act = act; other = no_place kind s a Get high asked tt }) fair waits
object_good n kind here s a x (Put v) high h act e served asked fair waits = served (Put v) (record { state = h; act = act; other = no_place kind s a (Put v) high asked tt }) fair waits
object_good n kind here s a x (PutAt slot v) high h act e served asked fair waits = served (PutAt slot v) (record { state = h; act = act; other = no_place kind s a (PutAt slot v) high asked tt }) fair waits
object_good n kind here s a x Close high h act e served asked fair waits = served Close (record { state = h; act = act; other = no_place kind s a Close high asked tt }) fair waits
object_good n kind here s a x Down high h act e served asked fair waits = served Down (record { state = h; act = act; other = no_place kind s a Down high asked tt }) fair waits
object_good n kind here s a x Wait high h act e served asked fair waits = served Wait (record { state = h; act = act; other = no_place kind s a Wait high asked tt }) fair waits
object_good n kind here s a x Arrive high h act e served asked fair waits = served Arrive (record { state = h; act = act; other = no_place kind s a Arrive high asked tt }) fair waits
object_good n kind here s a x Other high h act e served asked fair waits = served Other (record { state = h; act = act; other = no_place kind s a Other high asked tt }) fair waits

called_good : (n kind here : ℕ) (s : State) (a : Act) (x : Content Spelled) (r : Request Spelled) (b : Bool) → kind ≢ 7 → IsState s → IsAct a → layout spelled x ≡ s.values
    → IsServed n kind here s a x → request_in s a ≡ r → IsFair (IsPlaced (length s.ids) (length s.ids + length a.ids)) (has_cont a.cont) r → has_cont a.cont ≡ b
    → IsGood n kind here s a (called spelled here kind (length s.conts) b x r)
called_good n kind here s a x r true high h act e served asked fair waits = object_good n kind here s a x r high h act e served asked fair (λ f. waits)
called_good n kind here s a x r false high h act e served asked fair waits =
    good_if n kind here s a (awaits r) _ _ (λ f. silent_good n kind here s a x (record { state = h; act = act; other = no_place kind s a r high asked (other r f) }) e waits)
    (λ f. object_good n kind here s a x r high h act e served asked fair (λ g. never (awaits r) f g))
  where
    other : (r : Request Spelled) → awaits r ≡ true → IsOther r
    other Where f = cc
    other (Move to) f = cc
    other _ f = tt

    never : (b : Bool) → b ≡ false → b ≡ true → has_cont a.cont ≡ true
    never b f g = cc

shown_good : (n kind here : ℕ) (s : State) (a : Act) (o : Option (Content Spelled)) → kind ≢ 7 → IsState s → IsAct a → Shows (length s.conts) s.values o
    → ((x : Content Spelled) → layout spelled x ≡ s.values → IsBound (length s.conts) x → IsServed n kind here s a x)
    → IsGood n kind here s a (called spelled here kind (length s.conts) (has_cont a.cont) (or_unreadable s.values o) (request_in s a))
shown_good n kind here s a None high h act shows served =
    called_good n kind here s a (Unreadable s.values) (request_in s a) (has_cont a.cont) high h act refl
    (λ r call fair waits. refused_good n kind here s a (Unreadable s.values) 11 call refl (lit≤ tt) (lit≤ tt)) refl (asked_fair s a act) refl
shown_good n kind here s a (Some x) high h act shows served =
    called_good n kind here s a x (request_in s a) (has_cont a.cont) high h act shows.0 (served x shows.0 shows.1) refl (asked_fair s a act) refl

served_by : (n kind here : ℕ) (s : State) (a : Act) → here < n → (x : Content Spelled) → layout spelled x ≡ s.values → IsBound (length s.conts) x → IsServed n kind here s a x
served_by n kind here s a low (Contents.Latch left) e bound r call fair waits = latch_good n kind here s a left r call e bound.0
served_by n kind here s a low (Contents.Barrier size) e bound r call fair waits = let less = bound.0 in let most = bound.1 in barrier_good n kind here s a size r call e (omega arith)
served_by n kind here s a low (Contents.Channel b kept) e bound r call fair waits = channel_good n kind here s a b kept r call e bound fair
served_by n kind here s a low (Contents.Table pairs) e bound r call fair waits = served_table n kind here s a pairs r low call e bound fair
served_by n kind here s a low Contents.Maker e bound r call fair waits = maker_good n kind here s a r low call e bound
served_by n kind here s a low (Contents.Size m) e bound r call fair waits = size_good n kind here s a m r call e
served_by n kind here s a low (Contents.Number z) e bound r call fair waits = number_good n kind here s a z r call e bound
served_by n kind here s a low (Contents.Row zs) e bound r call fair waits = row_good n kind here s a zs r call e bound.0 bound.1
served_by n kind here s a low (Contents.Promise None) e bound r call fair waits = empty_good n kind here s a r call e bound fair
served_by n kind here s a low (Contents.Promise (Some v)) e bound r call fair waits = full_good n kind here s a v r call e bound fair
served_by n kind here s a low (Contents.Dataflow code inputs given) e bound r call fair waits = dataflow_good n kind here s a code inputs given r low call e bound fair waits
served_by n kind here s a low (Contents.Started code inputs) e bound r call fair waits = started_good n kind here s a code inputs r call e
served_by n kind here s a low (Contents.Unreadable vs) e bound r call fair waits = absurd bound

-- ---- what a state of any kind shows

shows_if : (w : ℕ) (vs : List Spelled) (b : Bool) (x y : Option (Content Spelled)) → Shows w vs x → Shows w vs y → Shows w vs (if b then x else y)
shows_if w vs true x y p q = p
shows_if w vs false x y p q = q

control_shown : (kind w : ℕ) (vs : List Spelled) → Shows w vs (Contents.control_in spelled kind w vs)
control_shown kind w vs =
    shows_if w vs (kind == 32) _ _ (promise_values w vs) (shows_if w vs (kind == 33) _ _ (dataflow_values w vs) (shows_if w vs (kind == 34) _ _ (channel_values w vs)
    (shows_if w vs (kind == 35) _ _ (latch_values w vs) (shows_if w vs (kind == 36) _ _ (barrier_values w vs) tt))))

resting_shown : (n kind : ℕ) (vs : List Spelled) → Shows 0 vs (Contents.resting_in spelled n kind vs)
resting_shown n kind vs =
    shows_if 0 vs ((kind == 2) || (kind == 5)) _ _ (table_values vs) (shows_if 0 vs (kind == 3) _ _ (maker_values vs) (shows_if 0 vs (kind == 4) _ _ (size_values n vs)
    (shows_if 0 vs (kind == 16) _ _ (number_values vs) (shows_if 0 vs (kind == 17) _ _ (row_values vs) tt))))

at_rest : (n kind w : ℕ) (vs : List Spelled) (b : Bool) → (w == 0) ≡ b → Shows w vs (if b then Contents.resting_in spelled n kind vs else None)
at_rest n kind w vs true e = let P : ℕ → Type 0 = λ m. Shows m vs (Contents.resting_in spelled n kind vs) in subst P (sym (eqb-true w 0 e)) (resting_shown n kind vs)
at_rest n kind w vs false e = tt

-- what a state shows lays out as its values
abbrev LaidOut : List Spelled → Option (Content Spelled) → Type 0
LaidOut vs o = layout spelled (or_unreadable vs o) ≡ vs

laid_out : (w : ℕ) (vs : List Spelled) (o : Option (Content Spelled)) → Shows w vs o → LaidOut vs o
laid_out w vs None h = refl
laid_out w vs (Some x) h = h.0

pub shown_laid : (n kind w : ℕ) (vs : List Spelled) → layout spelled (Contents.content_of spelled n kind w vs) ≡ vs
shown_laid n kind w vs =
    laid_out w vs (if nat_le 32 kind then Contents.control_in spelled kind w vs else if w == 0 then Contents.resting_in spelled n kind vs else None)
    (shows_if w vs (nat_le 32 kind) _ _ (control_shown kind w vs) (at_rest n kind w vs (w == 0) refl))

pub every_keeps : (n kind here : ℕ) (s : State) (a : Act) → here < n → kind ≢ 7 → IsState s → IsAct a → KeepsLaws n kind here s a (outcome_of n kind here s a)
unfolding outcome_of
every_keeps n kind here s a low high h act =
    let w = length s.conts in
    let read = if nat_le 32 kind then Contents.control_in spelled kind w s.values else if w == 0 then Contents.resting_in spelled n kind s.values else None in
    shown_good n kind here s a read high h act
    (shows_if w s.values (nat_le 32 kind) _ _ (control_shown kind w s.values) (at_rest n kind w s.values (w == 0) refl)) (served_by n kind here s a low)
