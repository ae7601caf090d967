-- A console's session: lines, and for each the entries of a journal that belong to it, until nothing is pending.
use Rattle.std.specs.Prelude.{ℕ, zero, suc, List, [], ◌∷◌, ◌++◌, ◌≡◌, ◌<◌, ◌⊎◌}
use Rattle.std.specs.List.{AllByRecursion}
use Rattle.hpx_journal.specs.Data.{Id}
use Rattle.hpx_journal.specs.Entries.{Name, Event, Line, Entry, Rules}
use Rattle.hpx_journal.specs.Whole.{Space, IsLegal, replayed}
use Rattle.hpx_journal.specs.Pool.{Pool, fed, IsActed, IsMoved, prints_of}

-- nothing is pending, nothing is due, and no frame is on the road
pub record IsSettled (r : Rules) (w : Space) : Type 0 where
  pub waiting : (k : ℕ) → k < r.localities → (w.places k).waiting ≡ []
  pub fired : (k : ℕ) → k < r.localities → (w.places k).fired ≡ []
  pub due : (k : ℕ) → k < r.localities → (w.places k).due ≡ []
  pub road : w.road ≡ []

-- ---- blocks

-- no line
abbrev pub FeedsNothing : Event → Type 0
FeedsNothing (Line a bytes) = ⊥
FeedsNothing _ = Unit {0}

-- first this line is fed, and no other after it
abbrev pub BeginsWith : List ℕ → List Entry → Type 0
BeginsWith line [] = ⊥
BeginsWith line (e ∷ es) = ((a : Name) × (e.event ≡ Line a line)) × AllByRecursion (λ x. FeedsNothing x.event) es

-- a block, behind the entries before it: one line, what follows from it, and then nothing is left to do
pub record IsBlock (r : Rules) (before : List Entry) (line : List ℕ) (es : List Entry) : Type 0 where
  pub legal : IsLegal r (before ++ es)
  pub begins : BeginsWith line es
  pub settled : IsSettled r (replayed r (before ++ es))

-- lines with their blocks, one behind the other
abbrev pub IsSession : Rules → List Entry → List (List ℕ) → List (List Entry) → Type 0
IsSession r before [] [] = Unit {0}
IsSession r before (line ∷ lines) (es ∷ blocks) = IsBlock r before line es × IsSession r (before ++ es) lines blocks
IsSession r before _ _ = ⊥

-- all entries of the blocks
abbrev pub entries_of : List (List Entry) → List Entry
entries_of [] = []
entries_of (es ∷ blocks) = es ++ entries_of blocks

-- for each block what it prints
abbrev pub shown : List (List Entry) → List (List (List ℕ))
shown [] = []
shown (es ∷ blocks) = prints_of es ∷ shown blocks

-- ---- the same over the plain pool

-- a message is acted on, or a pending MOVE carries an object
abbrev pub IsStep : Rules → Pool → Pool → Type 0
IsStep r p q = IsActed r p q ⊎ ((o : Id) × IsMoved o p q)

-- so many steps
abbrev pub Steps : Rules → ℕ → Pool → Pool → Type 0
Steps r zero p q = q ≡ p
Steps r (suc n) p q = (mid : Pool) × IsStep r p mid × Steps r n mid q

-- what was printed is taken away
abbrev pub at_rest : Pool → Pool
at_rest p = record p { printed = [] }

-- a line is fed where nothing is pending, and steps follow until nothing is: what is printed then, and the pool at rest
pub record IsPlainBlock (r : Rules) (p : Pool) (line : List ℕ) (text : List (List ℕ)) (p' : Pool) : Type 0 where
  pub ready : p.pending ≡ []
  pub steps : ℕ
  pub end : Pool
  pub acts : Steps r steps (fed (at_rest p) line) end
  pub idle : end.pending ≡ []
  pub printed : text ≡ end.printed
  pub keeps : p' ≡ at_rest end

-- lines, each with what is printed until nothing is pending
abbrev pub IsPlainSession : Rules → Pool → List (List ℕ) → List (List (List ℕ)) → Type 0
IsPlainSession r p [] [] = Unit {0}
IsPlainSession r p (line ∷ lines) (text ∷ texts) = (p' : Pool) × IsPlainBlock r p line text p' × IsPlainSession r p' lines texts
IsPlainSession r p _ _ = ⊥

-- a line is fed where nothing is pending, and some steps follow: the text begins what they print
pub record IsPlainFront (r : Rules) (p : Pool) (line : List ℕ) (text : List (List ℕ)) : Type 0 where
  pub ready : p.pending ≡ []
  pub steps : ℕ
  pub end : Pool
  pub acts : Steps r steps (fed (at_rest p) line) end
  pub later : List (List ℕ)
  pub printed : text ++ later ≡ end.printed

-- a session, and then a line that is broken off
abbrev pub IsPlainBrokenOff : Rules → Pool → List (List ℕ) → List (List (List ℕ)) → List ℕ → List (List ℕ) → Type 0
IsPlainBrokenOff r p [] [] line text = IsPlainFront r p line text
IsPlainBrokenOff r p (l ∷ lines) (t ∷ texts) line text =
    (p' : Pool) × IsPlainBlock r p l t p' × IsPlainBrokenOff r p' lines texts line text
IsPlainBrokenOff r p _ _ line text = ⊥
