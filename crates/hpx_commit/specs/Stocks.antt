-- Halves of ids that are taken ahead for those who name them first, where not all of an id's credit lasts for all.
use Rattle.std.specs.Prelude.{ℕ, zero, suc, true, cond, not, is_some, nat_le, min, List, [], ◌∷◌, ◌++◌, ◌≡◌, ◌≤◌, ◌<◌, ◌+◌, ◌-◌, ◌==◌, set, length, map}
use Rattle.std.specs.List.{filter, AllByRecursion}
use Rattle.hpx_value.specs.Ids.{Id, bare}
use Rattle.hpx_value.specs.Hands.{id_at}
use Rattle.hpx_commit.specs.Deals.{log_of, half, named, dealt, shares, unnamed, Lasts, AllLast, AreWithin}

-- ids, and the places among them that are named, in order
pub record Stock : Type 0 where
  pub hand : List Id
  pub places : List ℕ

-- the first that names place p names place q instead
abbrev pub first_moved : ℕ → ℕ → List ℕ → List ℕ
first_moved p q [] = []
first_moved p q (r ∷ rs) = cond (r == p) (q ∷ rs) (r ∷ first_moved p q rs)

-- the id at a place is halved: one half goes behind all ids, for the first that names the place, and the other stays
abbrev pub take_half : ℕ → Stock → Stock
take_half p s = record {
  hand = set s.hand p (half (id_at s.hand p)) ++ half (id_at s.hand p) ∷ [];
  places = first_moved p (length s.hand) s.places;
}

-- it is halved so many times
abbrev pub take_halves : ℕ → ℕ → Stock → Stock
take_halves zero p s = s
take_halves (suc k) p s = take_halves k p (take_half p s)

-- how often an id is halved ahead, where so many name it: as often as they need and its log allows
abbrev pub halvings : Id → ℕ → ℕ
halvings id n = min (n - 1) (log_of id.log)

-- the id at a place, so often
abbrev pub split_place : ℕ → Stock → Stock
split_place p s = take_halves (halvings (id_at s.hand p) (named s.places p)) p s

-- so many places, from place p on, one after another
abbrev pub ahead_from : ℕ → ℕ → Stock → Stock
ahead_from zero p s = s
ahead_from (suc k) p s = ahead_from k (p + 1) (split_place p s)

-- the first n places
abbrev pub ahead : ℕ → Stock → Stock
ahead n s = ahead_from n 0 s

-- an id that was halved so many times
abbrev pub halved : ℕ → Id → Id
halved zero id = id
halved (suc k) id = halved k (half id)

-- ids in parts: those of so many places, from place p on, as they are halved ahead, and the others whole
abbrev pub parts_from : ℕ → ℕ → List Id → List ℕ → List Id
parts_from k p [] places = []
parts_from zero p (id ∷ ids) places = id ∷ ids
parts_from (suc k) p (id ∷ ids) places = shares id (halvings id (named places p) + 1) ++ parts_from k (p + 1) ids places

-- the places, of so many from place p on, whose ids do not last for those who name them
abbrev pub short_from : ℕ → ℕ → Stock → List ℕ
short_from zero p s = []
short_from (suc k) p s =
    cond (nat_le (named s.places p) (log_of (id_at s.hand p).log + 1)) (short_from k (p + 1) s) (p ∷ short_from k (p + 1) s)

-- those of the first n places
abbrev pub short_places : ℕ → Stock → List ℕ
short_places n s = short_from n 0 s

-- these places but one
abbrev pub others : ℕ → List ℕ → List ℕ
others p ps = filter (λ q. not (q == p)) ps

-- another id at a place
abbrev pub replaced : ℕ → Id → Stock → Stock
replaced p id s = record { hand = set s.hand p id; places = s.places }

-- other ids at the places from p on
abbrev pub replaced_from : ℕ → List Id → Stock → Stock
replaced_from p [] s = s
replaced_from p (id ∷ ids) s = replaced_from (p + 1) ids (replaced p id s)

-- the ids at these places have no credit
abbrev pub stripped : List ℕ → Stock → Stock
stripped [] s = s
stripped (p ∷ ps) s = stripped ps (replaced p (bare (id_at s.hand p)) s)

-- whether the id at a place lasts for those who name it
abbrev pub Lasting : Stock → ℕ → Type 0
Lasting s p = Lasts (id_at s.hand p) (named s.places p)

-- the same objects are named, in order, and nobody names what nobody named before
pub record SameNames (s t : Stock) : Type 0 where
  pub within : AreWithin t.hand t.places
  pub as_many : length t.places ≡ length s.places
  pub names : map (λ p. bare (id_at t.hand p)) t.places ≡ map (λ p. bare (id_at s.hand p)) s.places
  pub left : unnamed t.hand t.places ≡ unnamed s.hand s.places

-- a stock that may be dealt in place of one: it names what that names, P holds of each id, and each lasts for all who name it
pub record MayDeal (P : Id → Type 0) (s t : Stock) : Type 0 where
  pub names : SameNames s t
  pub credit : AllByRecursion P t.hand
  pub few : length t.hand ≤ 1024
  pub lasts : AllLast t.hand t.places

-- all who name places get what they got before
pub record SameDeal (s t : Stock) : Type 0 where
  pub objects : SameNames s t
  pub deals : dealt t.hand t.places ≡ dealt s.hand s.places

-- the id at a place was halved k times, for the first k that named the place
pub record IsSplit (k p : ℕ) (s t : Stock) : Type 0 where
  pub part : id_at t.hand p ≡ halved k (id_at s.hand p)
  pub others : named t.places p + k ≡ named s.places p

-- the first n places are split ahead, the other places stay, and each half has one who names it
pub record IsAhead (n : ℕ) (s t : Stock) : Type 0 where
  pub longer : length s.hand ≤ length t.hand
  pub first : (p : ℕ) → p < n → IsSplit (halvings (id_at s.hand p) (named s.places p)) p s t
  pub rest : (p : ℕ) → n ≤ p → p < length s.hand → IsSplit 0 p s t
  pub halves : (p : ℕ) → length s.hand ≤ p → p < length t.hand → named t.places p ≡ 1

-- it was split off the id at one of the first n places: it is of the same object, and both have a credit
pub record IsHalf (n : ℕ) (s : Stock) (id : Id) : Type 0 where
  pub place : ℕ
  pub first : place < n
  pub object : bare id ≡ bare (id_at s.hand place)
  pub has : is_some id.log ≡ true
  pub had : is_some (id_at s.hand place).log ≡ true
