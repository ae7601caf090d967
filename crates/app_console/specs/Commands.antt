-- The commands of the consoles: the tables that the session and the plain space read, and what a line does.
use Rattle.std.specs.Prelude.{ℕ, ℤ, pos, Bool, true, false, nat_lt, nat_le, List, [], ◌∷◌, ◌++◌, ◌==◌, ◌&&◌, ◌||◌, ◌%◌, ◌-◌, Option, Some, None, codes, length, map, if◌then◌else◌}
use Rattle.std.specs.List.{list_all}
use Rattle.std.specs.Str.{bytes_eq}
use Rattle.hpx_calls.specs.Values.{Value, Int, Text, Fault}
use Rattle.app_console.specs.Console.{words_of, number_of, number_text, fault_text}
use Rattle.app_console.specs.Types.{Console, Space, AccumulatorConsole, Own, Need, NewName, BoundName, AnyName, It, NewIt, Locality, Number, Count, Receiver, First, RootHome, RootThere, RootBeside, Kind, Accumulator, Promise, Channel, Latch, Barrier, Arg, Word, Object, NumberOf, KindName, Answer, Silent, Tells, Releases, Binds, Written, WrittenDoes, WrittenHelps, WrittenDrops, WrittenSends, Refusal, BadCommand, BadName, NameInUse, UnknownName, NotReady, NoSuchLocality, BadNumber, NotMovable, TooManyNames, TooManyPending, Status, Unknown, Pending, Stands, Argument, GivenWord, GivenObject, GivenNumber, Goal, Named, RootAt, Plan, DoesNothing, ShowsHelp, Refuses, GivesUp, Calls, What, NotSaid, Told, Released, Bound}

-- ---- the tables

-- what a command does: the commands are printed, the first argument is a name no more, or an action is sent and answered
pub data Does : Type 0 where
  Helps : Does
  Drops : Does
  Sends : (to : Receiver) → (code : ℕ) → (args : List Arg) → (answer : Answer) → Does

-- what a command needs of its arguments, in the order in which they are judged, and what it does
pub record Row : Type 0 where
  pub needs : List Need
  pub does : Does

-- a command: its word, how the commands line shows it, and its row
pub record Command : Type 0 where
  pub word : List ℕ
  pub shown : List ℕ
  pub row : Row

-- a row whose action is sent
abbrev pub sends : List Need → Receiver → ℕ → List Arg → Answer → Row
sends needs to code args answer = record { needs = needs; does = Sends to code args answer }

-- code 5, NEW: something is made at the locality of the second argument, which may take a count, and the first argument stands for it
abbrev pub made_row : Option ℕ → Kind → Row
made_row None kind = sends (NewName ∷ Locality ∷ []) (RootThere 3) 5 (KindName kind ∷ []) Binds
made_row (Some most) kind = sends (NewName ∷ Locality ∷ Count most ∷ []) (RootThere 3) 5 (KindName kind ∷ NumberOf 2 ∷ []) Binds

-- something is asked of a named object
abbrev pub asks : ℕ → Answer → Row
asks code answer = sends (BoundName ∷ []) First code [] answer

-- a named object is given a number
abbrev pub gives : ℕ → Row
gives code = sends (BoundName ∷ Number ∷ []) First code (NumberOf 1 ∷ []) Silent

-- a command that the commands line shows by its word
abbrev pub command : List ℕ → Row → Command
command word row = record { word = word; shown = word; row = row }

-- commands that ask objects and move them
abbrev pub object_commands : List Command
object_commands =
    command (codes "new") (made_row None Accumulator)
    ∷ command (codes "add") (gives 16)
    ∷ command (codes "query") (asks 17 Tells)
    ∷ command (codes "move") (sends (BoundName ∷ Locality ∷ []) First 1 (NumberOf 1 ∷ []) Silent)
    ∷ command (codes "where") (asks 2 Tells)
    ∷ command (codes "drop") (record { needs = BoundName ∷ []; does = Drops })
    ∷ []

-- commands on names: kinds 2 Symbols, 4 Localities, 5 Shelf; codes 6 REGISTER, 7 RESOLVE, 8 UNREGISTER, 9 LIST, 10 COUNT
abbrev pub name_commands : List Command
name_commands =
    command (codes "share") (sends (BoundName ∷ Locality ∷ []) (RootThere 5) 6 (Word 0 ∷ Object 0 ∷ []) Silent)
    ∷ command (codes "unshare") (sends (AnyName ∷ Locality ∷ []) (RootThere 5) 8 (Word 0 ∷ []) Silent)
    ∷ command (codes "register") (sends (BoundName ∷ AnyName ∷ []) (RootHome 2) 6 (Word 1 ∷ Object 0 ∷ []) Silent)
    ∷ command (codes "lookup") (sends (NewName ∷ AnyName ∷ []) (RootHome 2) 7 (Word 1 ∷ []) Binds)
    ∷ command (codes "unregister") (sends (AnyName ∷ []) (RootHome 2) 8 (Word 0 ∷ []) Silent)
    ∷ command (codes "names") (sends [] (RootHome 2) 9 [] Tells)
    ∷ command (codes "localities") (sends [] (RootHome 4) 10 [] Tells)
    ∷ []

-- commands on control objects: codes 32 GET, 33 PUT, 34 CLOSE, 35 DOWN, 36 WAIT, 37 ARRIVE
abbrev pub control_commands : List Command
control_commands =
    command (codes "promise") (made_row None Promise)
    ∷ command (codes "channel") (made_row None Channel)
    ∷ command (codes "latch") (made_row (Some 1000000) Latch)
    ∷ command (codes "barrier") (made_row (Some 100) Barrier)
    ∷ command (codes "put") (gives 33)
    ∷ command (codes "get") (asks 32 Tells)
    ∷ command (codes "close") (asks 34 Silent)
    ∷ command (codes "down") (asks 35 Silent)
    ∷ command (codes "wait") (asks 36 Releases)
    ∷ command (codes "arrive") (asks 37 Releases)
    ∷ []

-- the commands are shown
abbrev pub help_command : List Need → Command
help_command needs = command (codes "help") (record { needs = needs; does = Helps })

-- the commands of `accumulator`, whose one object has no name: each is given it as its first argument
abbrev pub number_commands : List Command
number_commands =
    command (codes "reset") (sends (It ∷ []) First 18 [] Silent)
    ∷ record { word = codes "add"; shown = codes "add [amount]"; row = sends (It ∷ Number ∷ []) First 16 (NumberOf 1 ∷ []) Silent }
    ∷ command (codes "query") (sends (It ∷ []) First 17 [] Tells)
    ∷ []

-- what a console's lines can ask for; the one line of the top call's own has an accumulator made
abbrev pub commands_of : Console → List Command
commands_of Space = object_commands ++ (name_commands ++ (control_commands ++ help_command [] ∷ []))
commands_of AccumulatorConsole = number_commands ++ help_command (NewIt ∷ []) ∷ []
commands_of Own = command (codes "open") (sends (NewIt ∷ []) (RootBeside 3) 5 (KindName Accumulator ∷ []) Binds) ∷ []

-- what is put before the arguments of each command: in a console without names the empty name of its one object
abbrev pub first_of : Console → List (List ℕ)
first_of Space = []
first_of AccumulatorConsole = [] ∷ []
first_of Own = [] ∷ []

-- the command under a word
abbrev pub row_in : List Command → List ℕ → Option Row
row_in [] word = None
row_in (x ∷ xs) word = if bytes_eq word x.word then Some x.row else row_in xs word

-- ---- the tables of the code

abbrev pub as_does : WrittenDoes → Does
as_does WrittenHelps = Helps
as_does WrittenDrops = Drops
as_does (WrittenSends to code args answer) = Sends to code args.now answer

-- the row of a command, as the code has it
abbrev pub as_row : Written → Row
as_row x = record { needs = x.needs.now; does = as_does x.does }

-- the row under a word
abbrev pub row_under : List Written → List ℕ → Option Row
row_under [] word = None
row_under (x ∷ xs) word = if bytes_eq word x.word.now then Some (as_row x) else row_under xs word

-- ---- the commands line

abbrev pub spaced : List (List ℕ) → List ℕ
spaced [] = []
spaced (x ∷ []) = x
spaced (x ∷ y ∷ xs) = x ++ codes ", " ++ spaced (y ∷ xs)

-- what a console's commands but help are shown as
abbrev pub shown : List Command → List (List ℕ)
shown xs = map (λ x. x.shown) xs

-- the commands that a console names, and of which a session has no row: they are for the top call
abbrev pub handled : Console → List (List ℕ)
handled Space = codes "hold" ∷ codes "turn" ∷ codes "drain" ∷ codes "audit" ∷ codes "counter" ∷ []
handled _ = []

-- commands but help
abbrev pub but_help : Console → List Command
but_help Space = object_commands ++ (name_commands ++ control_commands)
but_help AccumulatorConsole = number_commands
but_help Own = []

-- printed first, and for `help`
abbrev pub help_of : Console → List ℕ
help_of c = codes "commands: " ++ spaced (shown (but_help c) ++ (handled c ++ codes "help" ∷ codes "quit" ∷ [])) ++ codes "\n"

-- ---- what a line is judged by

-- the localities, what each name is, how many names are bound or pending, and how many answers are awaited
pub record Sight : Type 0 where
  pub localities : ℕ
  pub status : List ℕ → Status
  pub names : ℕ
  pub awaited : ℕ

-- a letter, a digit or `_`
abbrev pub is_letter : ℕ → Bool
is_letter x = (nat_le 97 x && nat_le x 122) || ((nat_le 65 x && nat_le x 90) || ((nat_le 48 x && nat_le x 57) || (x == 95)))

-- a name or a key has from 1 to 32 of these
abbrev pub is_name : List ℕ → Bool
is_name w = nat_le 1 (length w) && (nat_le (length w) 32 && list_all is_letter w)

abbrev pub unless : Refusal → Bool → Option Refusal
unless r b = if b then None else Some r

abbrev pub new_refusal : Status → Option Refusal
new_refusal Unknown = None
new_refusal _ = Some NameInUse

abbrev pub bound_refusal : Status → Option Refusal
bound_refusal Unknown = Some UnknownName
bound_refusal Pending = Some NotReady
bound_refusal (Stands kind) = None

abbrev pub it_refusal : Status → Option Refusal
it_refusal (Stands kind) = None
it_refusal _ = Some NotReady

-- what is no name is refused first
abbrev pub named_refusal : List ℕ → Option Refusal → Option Refusal
named_refusal w refusal = if is_name w then refusal else Some BadName

-- a number that passes a test
abbrev pub within_refusal : Refusal → (ℕ → Bool) → Option ℤ → Option Refusal
within_refusal r test (Some (pos n)) = unless r (test n)
within_refusal r test _ = Some r

-- a number without a minus
abbrev pub count_of : Option ℤ → Option ℕ
count_of (Some (pos n)) = Some n
count_of _ = None

abbrev pub number_refusal : Option ℤ → Option Refusal
number_refusal None = Some BadNumber
number_refusal (Some z) = None

-- why an argument is not as it is needed
abbrev pub refusal : Sight → Need → List ℕ → Option Refusal
refusal s NewName w = named_refusal w (new_refusal (s.status w))
refusal s BoundName w = named_refusal w (bound_refusal (s.status w))
refusal s AnyName w = named_refusal w None
refusal s It w = it_refusal (s.status w)
refusal s NewIt w = None
refusal s Locality w = within_refusal NoSuchLocality (λ k. nat_lt k s.localities) (number_of w)
refusal s Number w = number_refusal (number_of w)
refusal s (Count most) w = within_refusal BadNumber (λ k. nat_le 1 k && nat_le k most) (number_of w)

abbrev pub or_else : Option Refusal → Option Refusal → Option Refusal
or_else (Some r) other = Some r
or_else None other = other

-- the first refusal of the arguments, from left to right
abbrev pub refusals : Sight → List Need → List (List ℕ) → Option Refusal
refusals s (need ∷ needs) (w ∷ ws) = or_else (refusal s need w) (refusals s needs ws)
refusals s _ _ = None

-- ---- what a command does

-- an argument by its number
abbrev pub word_at : ℕ → List (List ℕ) → List ℕ
word_at n [] = []
word_at n (w ∷ ws) = if n == 0 then w else word_at (n - 1) ws

abbrev pub number_or_0 : Option ℤ → ℤ
number_or_0 None = pos 0
number_or_0 (Some z) = z

abbrev pub locality_or_0 : Option ℤ → ℕ
locality_or_0 (Some (pos n)) = if nat_lt n 64 then n else 0
locality_or_0 _ = 0

abbrev pub kind_name : Kind → List ℕ
kind_name Accumulator = codes "accumulator"
kind_name Promise = codes "promise"
kind_name Channel = codes "channel"
kind_name Latch = codes "latch"
kind_name Barrier = codes "barrier"

-- what an action is given, over names
abbrev pub argument_of : List (List ℕ) → Arg → Argument
argument_of ws (Word i) = GivenWord (word_at i ws)
argument_of ws (Object i) = GivenObject (word_at i ws)
argument_of ws (NumberOf i) = GivenNumber (number_or_0 (number_of (word_at i ws)))
argument_of ws (KindName kind) = GivenWord (kind_name kind)

-- where an action goes
abbrev pub goal_of : ℕ → List (List ℕ) → Receiver → Goal
goal_of n ws First = Named (word_at 0 ws)
goal_of n ws (RootHome kind) = RootAt kind 0
goal_of n ws (RootThere kind) = RootAt kind (locality_or_0 (number_of (word_at 1 ws)))
goal_of n ws (RootBeside kind) = RootAt kind (1 % n)

-- what is done with the answer
abbrev pub what_of : Answer → List ℕ → What
what_of Silent name = NotSaid
what_of Tells name = Told
what_of Releases name = Released
what_of Binds name = Bound name

-- only what can move is moved
abbrev pub moved_refusal : Status → Option Refusal
moved_refusal (Stands kind) = unless NotMovable (nat_le 16 kind && nat_lt kind 32)
moved_refusal _ = Some NotMovable

abbrev pub is_binding : Answer → Bool
is_binding Binds = true
is_binding _ = false

-- refused besides: code 1 is MOVE; at most 100 names, and at most 100 answers
abbrev pub last_refusal : Sight → List (List ℕ) → Does → Option Refusal
last_refusal s ws (Sends to code args answer) =
    or_else (if code == 1 then moved_refusal (s.status (word_at 0 ws)) else None)
    (or_else (if is_binding answer then unless TooManyNames (nat_lt s.names 100) else None)
    (unless TooManyPending (nat_lt s.awaited 100)))
last_refusal s ws _ = None

abbrev pub done_by : ℕ → List (List ℕ) → Does → Plan
done_by n ws Helps = ShowsHelp
done_by n ws Drops = GivesUp (word_at 0 ws)
done_by n ws (Sends to code args answer) = Calls (goal_of n ws to) code (map (argument_of ws) args) (what_of answer (word_at 0 ws))

abbrev pub unless_refused : Option Refusal → Plan → Plan
unless_refused (Some r) plan = Refuses r
unless_refused None plan = plan

-- a command with its arguments: shape, then each argument, then the rest
abbrev pub judged : Sight → List (List ℕ) → Option Row → Plan
judged s ws None = Refuses BadCommand
judged s ws (Some row) =
    if length row.needs == length ws
    then unless_refused (or_else (refusals s row.needs ws) (last_refusal s ws row.does)) (done_by s.localities ws row.does)
    else Refuses BadCommand

-- a line by its words
abbrev pub plan_by : Console → Sight → List (List ℕ) → Plan
plan_by c s [] = DoesNothing
plan_by c s (word ∷ ws) = judged s (first_of c ++ ws) (row_in (commands_of c) word)

-- what a line does
abbrev pub plan_of : Console → Sight → List ℕ → Plan
plan_of c s line = plan_by c s (words_of line)

-- ---- texts

abbrev pub refusal_word : Refusal → List ℕ
refusal_word BadCommand = codes "bad command"
refusal_word BadName = codes "bad name"
refusal_word NameInUse = codes "name in use"
refusal_word UnknownName = codes "unknown name"
refusal_word NotReady = codes "not ready"
refusal_word NoSuchLocality = codes "no such locality"
refusal_word BadNumber = codes "bad number"
refusal_word NotMovable = codes "not movable"
refusal_word TooManyNames = codes "too many names"
refusal_word TooManyPending = codes "too many pending"

abbrev pub refusal_text : Refusal → List ℕ
refusal_text r = codes "error: " ++ refusal_word r ++ codes "\n"

abbrev pub released : List ℕ
released = codes "released\n"

-- at most 16,384 bytes are printed at once; fault 10 is Full
abbrev pub clipped : List ℕ → List ℕ
clipped text = if nat_le (length text) 16384 then text else fault_text 10

-- an answer that is told
abbrev pub told_text : {R : Type 0} → Value R → List ℕ
told_text (Int z) = number_text z
told_text (Text bytes) = clipped (bytes ++ codes "\n")
told_text _ = []

abbrev pub good_text : {R : Type 0} → What → Value R → List ℕ
good_text Told v = told_text v
good_text Released v = released
good_text _ v = []

-- what is printed for an answer: nothing, or one text
abbrev pub answer_text : {R : Type 0} → What → Value R → List ℕ
answer_text what (Fault code) = fault_text code
answer_text what v = good_text what v
