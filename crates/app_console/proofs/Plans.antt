-- What a line asks for is lawful: each row of the tables, and each argument that passes.
use Rattle.std.specs.Prelude.{ℕ, ℤ, pos, negsuc, Bool, true, false, nat_lt, nat_le, List, [], ◌∷◌, ◌++◌, ◌≡◌, ◌≢◌, ◌-◌, ◌≤◌, ◌<◌, ◌==◌, ◌&&◌, ◌⊎◌, Option, Some, None, length, map, refl, if◌then◌else◌}
use Rattle.std.specs.List.{AllByRecursion, list_all}
use Rattle.std.specs.Str.{bytes_eq}
use Rattle.std.proofs.Common.{sym, ap, ◌∙◌, subst, arith, lit≤, inl, inr}
use Rattle.std.proofs.Math.Nat.{mod-lt}
use Rattle.std.proofs.lemmas.Bool.{cond_both, and_parts, cases_Bool, eqb-true, eqb-false, leb-true, ltb-true, lt-ltb}
use Rattle.std.proofs.lemmas.List.{length-map}
use Rattle.hpx_value.specs.Laws.{IsRoot}
use Rattle.app_console.specs.Types.{Console, Space, AccumulatorConsole, Own, Need, NewName, BoundName, It, Locality, Receiver, First, RootHome, RootThere, RootBeside, Kind, Accumulator, Promise, Channel, Latch, Barrier, Arg, Word, Object, NumberOf, KindName, Answer, Silent, Tells, Releases, Binds, Refusal, BadName, NoSuchLocality, NotMovable, TooManyNames, TooManyPending, Status, Unknown, Pending, Stands, Argument, GivenWord, GivenNumber, Goal, Named, RootAt, Plan, Calls, What, Bound}
use Rattle.app_console.specs.Console.{words_of, number_of}
use Rattle.app_console.specs.Commands
use Rattle.app_console.specs.Commands.{Does, Helps, Drops, Sends, Row, Command, Sight}
use Rattle.app_console.proofs.Lengths.{words_fit}
use Rattle.app_console.proofs.Alikes.{says_well}
use Rattle.app_console.proofs.Namings.{IsWhat}

-- ---- rows

abbrev NeedsLocality : List Need → Type 0
NeedsLocality (need ∷ Locality ∷ needs) = Unit {0}
NeedsLocality _ = ⊥

abbrev NeedsNew : List Need → Type 0
NeedsNew (NewName ∷ needs) = Unit {0}
NeedsNew _ = ⊥

abbrev NeedsBound : List Need → Type 0
NeedsBound (BoundName ∷ needs) = Unit {0}
NeedsBound (It ∷ needs) = Unit {0}
NeedsBound _ = ⊥

-- an object that has come, or a root that there is
abbrev IsRooted : List Need → Receiver → Type 0
IsRooted needs First = NeedsBound needs
IsRooted needs (RootHome kind) = (kind ≡ 2) ⊎ (kind ≡ 4)
IsRooted needs (RootThere kind) = ((kind ≡ 3) ⊎ (kind ≡ 5)) × NeedsLocality needs
IsRooted needs (RootBeside kind) = kind ≡ 3

-- a name that is to be bound is a new one
abbrev IsBinding : Console → List Need → Answer → Type 0
IsBinding Space needs Binds = NeedsNew needs
IsBinding AccumulatorConsole needs Binds = ⊥
IsBinding _ needs answer = Unit {0}

-- only what can move is asked to move
record IsMoving (needs : List Need) (to : Receiver) (args : List Arg) : Type 0 where
  needs_is : needs ≡ BoundName ∷ Locality ∷ []
  to_is : to ≡ First
  args_is : args ≡ NumberOf 1 ∷ []

record IsSending (c : Console) (needs : List Need) (to : Receiver) (code : ℕ) (args : List Arg) (answer : Answer) : Type 0 where
  no_answer : (code ≢ 3) × (code ≢ 4)
  moves : (code ≢ 1) ⊎ IsMoving needs to args
  rooted : IsRooted needs to
  few : length args ≤ 2
  binds : IsBinding c needs answer
  says : (name : List ℕ) → says_well code (Commands.what_of answer name) ≡ true

abbrev IsSound : Console → List Need → Does → Type 0
IsSound c needs Helps = Unit {0}
IsSound c needs Drops = Unit {0}
IsSound c needs (Sends to code args answer) = IsSending c needs to code args answer

abbrev IsRow : Console → Row → Type 0
IsRow c row = IsSound c row.needs row.does

sound : (c : Console) (needs : List Need) (to : Receiver) (code : ℕ) (args : List Arg) (answer : Answer) → (code ≢ 3) × (code ≢ 4) → code ≢ 1 → IsRooted needs to
    → length args ≤ 2 → IsBinding c needs answer → ((name : List ℕ) → says_well code (Commands.what_of answer name) ≡ true)
    → IsSending c needs to code args answer
sound c needs to code args answer none still rooted few binds says = record { no_answer = none; moves = inl still; rooted = rooted; few = few; binds = binds; says = says }

object_sound : AllByRecursion (λ x. IsRow Space x.row) Commands.object_commands
object_sound = (
  sound Space _ _ _ _ _ (λ e. cc, λ e. cc) (λ e. cc) (inl refl, tt) (lit≤ tt) tt (λ name. refl),
  (
    sound Space _ _ _ _ _ (λ e. cc, λ e. cc) (λ e. cc) tt (lit≤ tt) tt (λ name. refl),
    (
      sound Space _ _ _ _ _ (λ e. cc, λ e. cc) (λ e. cc) tt (lit≤ tt) tt (λ name. refl),
      (
        record { no_answer = (λ e. cc, λ e. cc); moves = inr (record { needs_is = refl; to_is = refl; args_is = refl }); rooted = tt; few = lit≤ tt; binds = tt; says = λ name. refl },
        (sound Space _ _ _ _ _ (λ e. cc, λ e. cc) (λ e. cc) tt (lit≤ tt) tt (λ name. refl), (tt, tt)),
      ),
    ),
  ),
)

name_sound : AllByRecursion (λ x. IsRow Space x.row) Commands.name_commands
name_sound = (
  sound Space _ _ _ _ _ (λ e. cc, λ e. cc) (λ e. cc) (inr refl, tt) (lit≤ tt) tt (λ name. refl),
  (
    sound Space _ _ _ _ _ (λ e. cc, λ e. cc) (λ e. cc) (inr refl, tt) (lit≤ tt) tt (λ name. refl),
    (
      sound Space _ _ _ _ _ (λ e. cc, λ e. cc) (λ e. cc) (inl refl) (lit≤ tt) tt (λ name. refl),
      (
        sound Space _ _ _ _ _ (λ e. cc, λ e. cc) (λ e. cc) (inl refl) (lit≤ tt) tt (λ name. refl),
        (
          sound Space _ _ _ _ _ (λ e. cc, λ e. cc) (λ e. cc) (inl refl) (lit≤ tt) tt (λ name. refl),
          (
            sound Space _ _ _ _ _ (λ e. cc, λ e. cc) (λ e. cc) (inl refl) (lit≤ tt) tt (λ name. refl),
            (sound Space _ _ _ _ _ (λ e. cc, λ e. cc) (λ e. cc) (inr refl) (lit≤ tt) tt (λ name. refl), tt),
          ),
        ),
      ),
    ),
  ),
)

control_sound : AllByRecursion (λ x. IsRow Space x.row) Commands.control_commands
control_sound = (
  sound Space _ _ _ _ _ (λ e. cc, λ e. cc) (λ e. cc) (inl refl, tt) (lit≤ tt) tt (λ name. refl),
  (
    sound Space _ _ _ _ _ (λ e. cc, λ e. cc) (λ e. cc) (inl refl, tt) (lit≤ tt) tt (λ name. refl),
    (
      sound Space _ _ _ _ _ (λ e. cc, λ e. cc) (λ e. cc) (inl refl, tt) (lit≤ tt) tt (λ name. refl),
      (
        sound Space _ _ _ _ _ (λ e. cc, λ e. cc) (λ e. cc) (inl refl, tt) (lit≤ tt) tt (λ name. refl),
        (
          sound Space _ _ _ _ _ (λ e. cc, λ e. cc) (λ e. cc) tt (lit≤ tt) tt (λ name. refl),
          (
            sound Space _ _ _ _ _ (λ e. cc, λ e. cc) (λ e. cc) tt (lit≤ tt) tt (λ name. refl),
            (
              sound Space _ _ _ _ _ (λ e. cc, λ e. cc) (λ e. cc) tt (lit≤ tt) tt (λ name. refl),
              (
                sound Space _ _ _ _ _ (λ e. cc, λ e. cc) (λ e. cc) tt (lit≤ tt) tt (λ name. refl),
                (
                  sound Space _ _ _ _ _ (λ e. cc, λ e. cc) (λ e. cc) tt (lit≤ tt) tt (λ name. refl),
                  (sound Space _ _ _ _ _ (λ e. cc, λ e. cc) (λ e. cc) tt (lit≤ tt) tt (λ name. refl), tt),
                ),
              ),
            ),
          ),
        ),
      ),
    ),
  ),
)

both_all : {X : Type 0} (P : X → Type 0) (xs ys : List X) → AllByRecursion P xs → AllByRecursion P ys → AllByRecursion P (xs ++ ys)
both_all P [] ys h k = k
both_all P (x ∷ xs) ys h k = (h.0, both_all P xs ys h.1 k)

rows_sound : (c : Console) → AllByRecursion (λ x. IsRow c x.row) (Commands.commands_of c)
rows_sound Space =
    both_all (λ x. IsRow Space x.row) Commands.object_commands (Commands.name_commands ++ (Commands.control_commands ++ Commands.help_command [] ∷ [])) object_sound
    (both_all (λ x. IsRow Space x.row) Commands.name_commands (Commands.control_commands ++ Commands.help_command [] ∷ []) name_sound
    (both_all (λ x. IsRow Space x.row) Commands.control_commands (Commands.help_command [] ∷ []) control_sound (tt, tt)))
rows_sound AccumulatorConsole = (
  sound AccumulatorConsole _ _ _ _ _ (λ e. cc, λ e. cc) (λ e. cc) tt (lit≤ tt) tt (λ name. refl),
  (
    sound AccumulatorConsole _ _ _ _ _ (λ e. cc, λ e. cc) (λ e. cc) tt (lit≤ tt) tt (λ name. refl),
    (sound AccumulatorConsole _ _ _ _ _ (λ e. cc, λ e. cc) (λ e. cc) tt (lit≤ tt) tt (λ name. refl), (tt, tt)),
  ),
)
rows_sound Own = (sound Own _ _ _ _ _ (λ e. cc, λ e. cc) (λ e. cc) refl (lit≤ tt) tt (λ name. refl), tt)

row_found : (P : Row → Type 0) (xs : List Command) (word : List ℕ) (row : Row) → AllByRecursion (λ x. P x.row) xs → Commands.row_in xs word ≡ Some row → P row
row_found P [] word row h e = cc
row_found P (x ∷ xs) word row h e = by_word (bytes_eq word x.word) e (row_found P xs word row h.1)
  where
    by_word : (b : Bool) → (if b then Some x.row else Commands.row_in xs word) ≡ Some row → (Commands.row_in xs word ≡ Some row → P row) → P row
    by_word true f g = let same : x.row ≡ row = cc in subst P same h.0
    by_word false f g = g f

-- ---- arguments that pass

or_none : (x y : Option Refusal) → Commands.or_else x y ≡ None → (x ≡ None) × (y ≡ None)
or_none None y e = (refl, e)
or_none (Some r) y e = cc

unless_none : (r : Refusal) (b : Bool) → Commands.unless r b ≡ None → b ≡ true
unless_none r true e = refl
unless_none r false e = cc

name_short : (w : List ℕ) (x : Option Refusal) → Commands.named_refusal w x ≡ None → length w ≤ 32
name_short w x e = by_name (Commands.is_name w) refl e
  where
    by_name : (b : Bool) → Commands.is_name w ≡ b → (if b then x else Some BadName) ≡ None → length w ≤ 32
    by_name false f g = cc
    by_name true f g =
        let rest = and_parts (nat_le 1 (length w)) (nat_le (length w) 32 && list_all Commands.is_letter w) f in
        leb-true (length w) 32 (and_parts (nat_le (length w) 32) (list_all Commands.is_letter w) rest.1).0

record IsLocality (n : ℕ) (z : Option ℤ) : Type 0 where
  at : ℕ
  is : z ≡ Some (pos at)
  low : at < n

locality_is : (n : ℕ) (z : Option ℤ) → Commands.within_refusal NoSuchLocality (λ k. nat_lt k n) z ≡ None → IsLocality n z
locality_is n (Some (pos k)) e = record { at = k; is = refl; low = ltb-true k n (unless_none NoSuchLocality (nat_lt k n) e) }
locality_is n (Some (negsuc k)) e = cc
locality_is n None e = cc

-- the second argument is a locality
second_locality : (s : Sight) (needs : List Need) (ws : List (List ℕ)) → NeedsLocality needs → length needs ≡ length ws → Commands.refusals s needs ws ≡ None
    → IsLocality s.localities (number_of (Commands.word_at 1 ws))
second_locality s (need ∷ Locality ∷ needs) (w ∷ v ∷ ws) h long e =
    locality_is s.localities (number_of v) (or_none (Commands.refusal s Locality v) (Commands.refusals s needs ws) (or_none (Commands.refusal s need w) (Commands.refusals s (Locality ∷ needs) (v ∷ ws)) e).1).0
second_locality s (need ∷ Locality ∷ needs) (w ∷ []) h long e = absurd (omega arith)
second_locality s (need ∷ Locality ∷ needs) [] h long e = absurd (omega arith)
second_locality s _ ws h long e = absurd h

first_new : (s : Sight) (needs : List Need) (ws : List (List ℕ)) → NeedsNew needs → length needs ≡ length ws → Commands.refusals s needs ws ≡ None → length (Commands.word_at 0 ws) ≤ 32
first_new s (NewName ∷ needs) (w ∷ ws) h long e = name_short w (Commands.new_refusal (s.status w)) (or_none (Commands.refusal s NewName w) (Commands.refusals s needs ws) e).0
first_new s (NewName ∷ needs) [] h long e = absurd (omega arith)
first_new s _ ws h long e = absurd h

-- a new name is unknown
first_unknown : (s : Sight) (needs : List Need) (ws : List (List ℕ)) → NeedsNew needs → length needs ≡ length ws → Commands.refusals s needs ws ≡ None
    → s.status (Commands.word_at 0 ws) ≡ Unknown
first_unknown s (NewName ∷ needs) (w ∷ ws) h long e =
    unknown (s.status w) (by_name (Commands.is_name w) (Commands.new_refusal (s.status w)) (or_none (Commands.refusal s NewName w) (Commands.refusals s needs ws) e).0)
  where
    by_name : (b : Bool) (x : Option Refusal) → (if b then x else Some BadName) ≡ None → x ≡ None
    by_name true x g = g
    by_name false x g = cc

    unknown : (t : Status) → Commands.new_refusal t ≡ None → t ≡ Unknown
    unknown Unknown f = refl
    unknown Pending f = cc
    unknown (Stands kind) f = cc
first_unknown s (NewName ∷ needs) [] h long e = absurd (omega arith)
first_unknown s _ ws h long e = absurd h

-- the first argument stands for an object
first_stands : (s : Sight) (needs : List Need) (ws : List (List ℕ)) → NeedsBound needs → length needs ≡ length ws → Commands.refusals s needs ws ≡ None
    → (kind : ℕ) × (s.status (Commands.word_at 0 ws) ≡ Stands kind)
first_stands s (BoundName ∷ needs) (w ∷ ws) h long e =
    bound (s.status w) (named_none w (Commands.bound_refusal (s.status w)) (or_none (Commands.refusal s BoundName w) (Commands.refusals s needs ws) e).0)
  where
    named_none : (w : List ℕ) (x : Option Refusal) → Commands.named_refusal w x ≡ None → x ≡ None
    named_none w x f = by_name (Commands.is_name w) f
      where
        by_name : (b : Bool) → (if b then x else Some BadName) ≡ None → x ≡ None
        by_name true g = g
        by_name false g = cc

    bound : (t : Status) → Commands.bound_refusal t ≡ None → (kind : ℕ) × (t ≡ Stands kind)
    bound (Stands kind) f = (kind, refl)
    bound Unknown f = absurd (cc)
    bound Pending f = absurd (cc)
first_stands s (It ∷ needs) (w ∷ ws) h long e = bound (s.status w) (or_none (Commands.refusal s It w) (Commands.refusals s needs ws) e).0
  where
    bound : (t : Status) → Commands.it_refusal t ≡ None → (kind : ℕ) × (t ≡ Stands kind)
    bound (Stands kind) f = (kind, refl)
    bound Unknown f = absurd (cc)
    bound Pending f = absurd (cc)
first_stands s (BoundName ∷ needs) [] h long e = absurd (omega arith)
first_stands s (It ∷ needs) [] h long e = absurd (omega arith)
first_stands s _ ws h long e = absurd h

abbrev AreShort : List (List ℕ) → Type 0
AreShort ws = AllByRecursion (λ w. length w ≤ 16384) ws

word_short : (i : ℕ) (ws : List (List ℕ)) → AreShort ws → length (Commands.word_at i ws) ≤ 16384
word_short i [] h = lit≤ tt
word_short i (w ∷ ws) h = cond_both (i == 0) _ _ (λ v. length v ≤ 16384) (λ e. h.0) (λ e. word_short (i - 1) ws h.1)

-- ---- plans

abbrev pub IsGiven : Argument → Type 0
IsGiven (GivenWord word) = length word ≤ 16384
IsGiven _ = Unit {0}

-- a goal that there is
abbrev pub IsGoal : Sight → Goal → Type 0
IsGoal s (Named name) = (kind : ℕ) × (s.status name ≡ Stands kind)
IsGoal s (RootAt kind at) = IsRoot s.localities kind at × (kind ≢ 1) × (kind ≢ 7)

-- a movable object is asked to move to a locality that there is
pub record IsMove (s : Sight) (goal : Goal) (args : List Argument) : Type 0 where
  pub name : List ℕ
  pub goal_is : goal ≡ Named name
  pub kind : ℕ
  pub stands : s.status name ≡ Stands kind
  pub movable : (16 ≤ kind) × (kind < 32)
  pub to : ℕ
  pub below : to < s.localities
  pub args_are : args ≡ GivenNumber (pos to) ∷ []

-- a name that is to be bound stands for nothing yet, or is the empty one
abbrev pub IsFresh : Console → Sight → What → Type 0
IsFresh Space s (Bound name) = s.status name ≡ Unknown
IsFresh AccumulatorConsole s (Bound name) = ⊥
IsFresh Own s (Bound name) = name ≡ []
IsFresh c s _ = Unit {0}

-- one name more is still within the bound
abbrev pub HasRoom : Sight → What → Type 0
HasRoom s (Bound name) = s.names < 100
HasRoom s _ = Unit {0}

pub record IsCall (c : Console) (s : Sight) (goal : Goal) (code : ℕ) (args : List Argument) (what : What) : Type 0 where
  pub no_answer : (code ≢ 3) × (code ≢ 4)
  pub moves : (code ≢ 1) ⊎ IsMove s goal args
  pub goal_fine : IsGoal s goal
  pub few : length args ≤ 2
  pub each : AllByRecursion IsGiven args
  pub what_fine : IsWhat what
  pub names_few : s.names ≤ 100
  pub says : says_well code what ≡ true
  pub fresh : IsFresh c s what
  pub room : s.awaited < 100
  pub names_room : HasRoom s what

abbrev pub IsPlan : Console → Sight → Plan → Type 0
IsPlan c s (Calls goal code args what) = IsCall c s goal code args what
IsPlan c s _ = Unit {0}

kind_short : (kind : Kind) → length (Commands.kind_name kind) ≤ 16384
kind_short Accumulator = lit≤ tt
kind_short Promise = lit≤ tt
kind_short Channel = lit≤ tt
kind_short Latch = lit≤ tt
kind_short Barrier = lit≤ tt

argument_given : (ws : List (List ℕ)) (x : Arg) → AreShort ws → IsGiven (Commands.argument_of ws x)
argument_given ws (Word i) h = word_short i ws h
argument_given ws (Object i) h = tt
argument_given ws (NumberOf i) h = tt
argument_given ws (KindName kind) h = kind_short kind

arguments_given : (ws : List (List ℕ)) (xs : List Arg) → AreShort ws → AllByRecursion IsGiven (map (Commands.argument_of ws) xs)
arguments_given ws [] h = tt
arguments_given ws (x ∷ xs) h = (argument_given ws x h, arguments_given ws xs h)

-- in a console without names the first argument is empty
abbrev IsUnnamed : Console → List (List ℕ) → Type 0
IsUnnamed Space ws = Unit {0}
IsUnnamed _ ws = Commands.word_at 0 ws ≡ []

module _ (c : Console) (s : Sight) (some : 1 ≤ s.localities) (few_localities : s.localities ≤ 64) (needs : List Need) (ws : List (List ℕ)) (long : length needs ≡ length ws) (pass : Commands.refusals s needs ws ≡ None) (short : AreShort ws) where
  there : (to : Receiver) → IsRooted needs to → IsGoal s (Commands.goal_of s.localities ws to)
  there First h = first_stands s needs ws h long pass
  there (RootHome kind) (inl e) = (inl (inr (inl e), refl), (λ f. absurd (omega arith)), (λ f. absurd (omega arith)))
  there (RootHome kind) (inr e) = (inl (inr (inr e), refl), (λ f. absurd (omega arith)), (λ f. absurd (omega arith)))
  there (RootThere kind) h =
      let l = second_locality s needs ws h.1 long pass in
      let less = l.low in
      let capped : Commands.locality_or_0 (number_of (Commands.word_at 1 ws)) ≡ l.at =
      ap Commands.locality_or_0 l.is ∙ ap (λ (b : Bool). if b then l.at else 0) (lt-ltb l.at 64 (omega arith)) in
      let P : ℕ → Type 0 = λ at. IsRoot s.localities kind at in
      (subst P (sym capped) (inr (kinds kind h.0, less)), (apart kind h.0).0, (apart kind h.0).1)
    where
      apart : (kind : ℕ) → (kind ≡ 3) ⊎ (kind ≡ 5) → (kind ≢ 1) × (kind ≢ 7)
      apart kind (inl e) = ((λ f. absurd (omega arith)), (λ f. absurd (omega arith)))
      apart kind (inr e) = ((λ f. absurd (omega arith)), (λ f. absurd (omega arith)))

      kinds : (kind : ℕ) → (kind ≡ 3) ⊎ (kind ≡ 5) → (kind ≡ 3) ⊎ ((kind ≡ 5) ⊎ (kind ≡ 7))
      kinds kind (inl e) = inl e
      kinds kind (inr e) = inr (inl e)
  there (RootBeside kind) h = (inr (inl h, mod-lt 1 some), (λ f. absurd (omega arith)), (λ f. absurd (omega arith)))

  bound_short : (answer : Answer) → IsBinding c needs answer → IsUnnamed c ws → IsWhat (Commands.what_of answer (Commands.word_at 0 ws))
  bound_short Silent h u = tt
  bound_short Tells h u = tt
  bound_short Releases h u = tt
  bound_short Binds h u = by_console c h u
    where
      by_console : (c : Console) → IsBinding c needs Binds → IsUnnamed c ws → length (Commands.word_at 0 ws) ≤ 32
      by_console Space h u = first_new s needs ws h long pass
      by_console AccumulatorConsole h u = absurd h
      by_console Own h u = rw u (lit≤ tt)

  bound_fresh : (answer : Answer) → IsBinding c needs answer → IsUnnamed c ws → IsFresh c s (Commands.what_of answer (Commands.word_at 0 ws))
  bound_fresh answer h u = by_console c answer h u
    where
      by_console : (c : Console) (answer : Answer) → IsBinding c needs answer → IsUnnamed c ws → IsFresh c s (Commands.what_of answer (Commands.word_at 0 ws))
      by_console Space Binds h u = first_unknown s needs ws h long pass
      by_console AccumulatorConsole Binds h u = absurd h
      by_console Own Binds h u = u
      by_console Space Silent h u = tt
      by_console Space Tells h u = tt
      by_console Space Releases h u = tt
      by_console AccumulatorConsole Silent h u = tt
      by_console AccumulatorConsole Tells h u = tt
      by_console AccumulatorConsole Releases h u = tt
      by_console Own Silent h u = tt
      by_console Own Tells h u = tt
      by_console Own Releases h u = tt

  moved : (to : Receiver) (code : ℕ) (args : List Arg) → code ≡ 1 → IsMoving needs to args → (if code == 1 then Commands.moved_refusal (s.status (Commands.word_at 0 ws)) else None) ≡ None
      → IsMove s (Commands.goal_of s.localities ws to) (map (Commands.argument_of ws) args)
  moved to code args one h e =
      let must : Commands.moved_refusal (s.status (Commands.word_at 0 ws)) ≡ None =
      ap (λ (k : ℕ). if k == 1 then Commands.moved_refusal (s.status (Commands.word_at 0 ws)) else None) (sym one) ∙ e in
      let l = second_locality s needs ws (let P : List Need → Type 0 = NeedsLocality in subst P (sym h.needs_is) tt) long pass in
      let m = movable (s.status (Commands.word_at 0 ws)) must in
      record {
        name = Commands.word_at 0 ws;
        goal_is = ap (Commands.goal_of s.localities ws) h.to_is;
        kind = m.0;
        stands = m.1;
        movable = m.2;
        to = l.at;
        below = l.low;
        args_are = ap (map (Commands.argument_of ws)) h.args_is ∙ ap (λ z. GivenNumber (Commands.number_or_0 z) ∷ []) l.is;
      }
    where
      movable : (x : Status) → Commands.moved_refusal x ≡ None → (kind : ℕ) × (x ≡ Stands kind) × ((16 ≤ kind) × (kind < 32))
      movable Unknown g = cc
      movable Pending g = cc
      movable (Stands kind) g =
          let parts = and_parts (nat_le 16 kind) (nat_lt kind 32) (unless_none NotMovable (nat_le 16 kind && nat_lt kind 32) g) in
          (kind, refl, (leb-true 16 kind parts.0, ltb-true kind 32 parts.1))

  call_fine : (to : Receiver) (code : ℕ) (args : List Arg) (answer : Answer) → IsSending c needs to code args answer → IsUnnamed c ws → s.names ≤ 100
      → Commands.last_refusal s ws (Sends to code args answer) ≡ None
      → IsCall c s (Commands.goal_of s.localities ws to) code (map (Commands.argument_of ws) args) (Commands.what_of answer (Commands.word_at 0 ws))
  call_fine to code args answer h unnamed names e =
      let first = or_none (if code == 1 then Commands.moved_refusal (s.status (Commands.word_at 0 ws)) else None) _ e in
      let second = or_none (if Commands.is_binding answer then Commands.unless TooManyNames (nat_lt s.names 100) else None) _ first.1 in
      record {
        no_answer = h.no_answer;
        moves = either h.moves first.0;
        goal_fine = there to h.rooted;
        few = let f = h.few in omega (arith, length-map args (Commands.argument_of ws));
        each = arguments_given ws args short;
        what_fine = bound_short answer h.binds unnamed;
        names_few = names;
        says = h.says (Commands.word_at 0 ws);
        fresh = bound_fresh answer h.binds unnamed;
        room = ltb-true s.awaited 100 (unless_none TooManyPending (nat_lt s.awaited 100) second.1);
        names_room = roomy answer second.0;
      }
    where
      roomy : (answer : Answer) → (if Commands.is_binding answer then Commands.unless TooManyNames (nat_lt s.names 100) else None) ≡ None
          → HasRoom s (Commands.what_of answer (Commands.word_at 0 ws))
      roomy Binds f = ltb-true s.names 100 (unless_none TooManyNames (nat_lt s.names 100) f)
      roomy Silent f = tt
      roomy Tells f = tt
      roomy Releases f = tt

      either : (code ≢ 1) ⊎ IsMoving needs to args → (if code == 1 then Commands.moved_refusal (s.status (Commands.word_at 0 ws)) else None) ≡ None
          → (code ≢ 1) ⊎ IsMove s (Commands.goal_of s.localities ws to) (map (Commands.argument_of ws) args)
      either (inl still) f = inl still
      either (inr m) f = elim (cases_Bool (code == 1)) [
        | inl g ↦ inr (moved to code args (eqb-true code 1 g) m f)
        | inr g ↦ inl (eqb-false code 1 g)
      ]

  done_fine : (does : Does) → IsSound c needs does → IsUnnamed c ws → s.names ≤ 100 → Commands.last_refusal s ws does ≡ None → IsPlan c s (Commands.done_by s.localities ws does)
  done_fine Helps h u names e = tt
  done_fine Drops h u names e = tt
  done_fine (Sends to code args answer) h u names e = call_fine to code args answer h u names e

unless_plan : (c : Console) (s : Sight) (x : Option Refusal) (plan : Plan) → (x ≡ None → IsPlan c s plan) → IsPlan c s (Commands.unless_refused x plan)
unless_plan c s None plan h = h refl
unless_plan c s (Some r) plan h = tt

judged_fine : (c : Console) (s : Sight) (ws : List (List ℕ)) (o : Option Row) → 1 ≤ s.localities → s.localities ≤ 64 → s.names ≤ 100 → AreShort ws → IsUnnamed c ws
    → ((row : Row) → o ≡ Some row → IsRow c row) → IsPlan c s (Commands.judged s ws o)
judged_fine c s ws None some few names short u h = tt
judged_fine c s ws (Some row) some few names short u h =
    cond_both (length row.needs == length ws) _ _ (IsPlan c s)
    (λ e. unless_plan c s (Commands.or_else (Commands.refusals s row.needs ws) (Commands.last_refusal s ws row.does)) (Commands.done_by s.localities ws row.does)
    (λ pass. let both = or_none (Commands.refusals s row.needs ws) (Commands.last_refusal s ws row.does) pass in
    done_fine c s some few row.needs ws (eqb-true (length row.needs) (length ws) e) both.0 short row.does (h row refl) u names both.1)) (λ e. tt)

unnamed_is : (c : Console) (ws : List (List ℕ)) → IsUnnamed c (Commands.first_of c ++ ws)
unnamed_is Space ws = tt
unnamed_is AccumulatorConsole ws = refl
unnamed_is Own ws = refl

first_short : (c : Console) (ws : List (List ℕ)) → AreShort ws → AreShort (Commands.first_of c ++ ws)
first_short Space ws h = h
first_short AccumulatorConsole ws h = (lit≤ tt, h)
first_short Own ws h = (lit≤ tt, h)

by_words : (c : Console) (s : Sight) (ws : List (List ℕ)) → 1 ≤ s.localities → s.localities ≤ 64 → s.names ≤ 100 → AreShort ws → IsPlan c s (Commands.plan_by c s ws)
by_words c s [] some few names short = tt
by_words c s (word ∷ ws) some few names short =
    judged_fine c s (Commands.first_of c ++ ws) (Commands.row_in (Commands.commands_of c) word) some few names (first_short c ws short.1) (unnamed_is c ws)
    (λ row e. row_found (IsRow c) (Commands.commands_of c) word row (rows_sound c) e)

shorter : (n : ℕ) (ws : List (List ℕ)) → n ≤ 16384 → AllByRecursion (λ w. length w ≤ n) ws → AreShort ws
shorter n [] low h = tt
shorter n (w ∷ ws) low h = let short = h.0 in (omega arith, shorter n ws low h.1)

-- what a line does is lawful
pub plan_fine : (c : Console) (s : Sight) (line : List ℕ) → 1 ≤ s.localities → s.localities ≤ 64 → s.names ≤ 100 → length line ≤ 16384 → IsPlan c s (Commands.plan_of c s line)
plan_fine c s line some few names short = by_words c s (words_of line) some few names (shorter (length line) (words_of line) short (words_fit line))
