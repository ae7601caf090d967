-- What an entry leaves alone is shown as before.
use Rattle.std.proofs.Common.{ℕ, List, ◌≡◌, ◌+◌, ◌≤◌, true, sym, ap, subst}
use Rattle.std.specs.List.{find, count_by, list_any, AllByRecursion}
use Rattle.hpx_value.specs.Ids.{same_object}
use Rattle.hpx_journal.specs.Data.{Id, Act, Due}
use Rattle.hpx_journal.specs.Local.{is_act, is_standing, is_travel, is_recorded, is_given, is_given_none, count_in}
use Rattle.hpx_journal.specs.Rows.{is_dead_record}
use Rattle.hpx_part.specs.Keyed.{Agree}
use Rattle.hpx_parcel.specs.Credits.{Credit}
use Rattle.hpx_part.specs.Data.{Standing, Travel, Recorded, Refusal, Local}
use Rattle.hpx_part.specs.View.{View}
use Rattle.hpx_part.specs.Shows.{ShowsActs, ShowsObjects, ShowsCredit, ShowsCounts, SameTokens, same_refusal}

-- what is known of two values is known of those that they are
known : {A B : Type 0} (P : A → B → Type 0) (a a' : A) (b b' : B) → a' ≡ a → b' ≡ b → P a b → P a' b'
known P a a' b b' e f h = subst (λ x. P x b') (sym e) (subst (λ y. P a y) (sym f) h)

-- ---- actions

abbrev pub Acts : Type 0
Acts = ℕ × ℕ × List Act × List Act × List Due

abbrev pub acts_seen : View → Acts
acts_seen v = (v.here, v.serial, v.waiting, v.fired, v.due)

abbrev pub acts_there : Local → Acts
acts_there s = (s.here, s.serial, s.waiting, s.fired, s.due)

module _ (v w : View) (s t : Local) (seen : acts_seen w ≡ acts_seen v) (there : acts_there t ≡ acts_there s) where
  pub acts_stay : ShowsActs v s → ShowsActs w t
  acts_stay h = record {
    here = known (λ (x y : ℕ). x ≡ y) s.here t.here v.here w.here (ap (λ (x : Acts). x.0) there) (ap (λ (x : Acts). x.0) seen) h.here;
    serial = known (λ (x y : ℕ). x ≡ y) s.serial t.serial v.serial w.serial (ap (λ (x : Acts). x.1) there) (ap (λ (x : Acts). x.1) seen) h.serial;
    waiting = known (Agree is_act) s.waiting t.waiting v.waiting w.waiting (ap (λ (x : Acts). x.2) there) (ap (λ (x : Acts). x.2) seen) h.waiting;
    fired = known (Agree is_act) s.fired t.fired v.fired w.fired (ap (λ (x : Acts). x.3) there) (ap (λ (x : Acts). x.3) seen) h.fired;
    due = known (λ (x y : List Due). x ≡ y) s.due t.due v.due w.due (ap (λ (x : Acts). x.4) there) (ap (λ (x : Acts). x.4) seen) h.due;
  }

-- ---- objects

abbrev pub Objects : Type 0
Objects = ℕ × List Standing × List Travel × List Id

abbrev pub objects_seen : View → Objects
objects_seen v = (v.number, v.objects, v.travels, v.fresh)

abbrev pub ObjectsThere : Type 0
ObjectsThere = ℕ × List Standing × List Id

abbrev pub objects_there : Local → ObjectsThere
objects_there s = (s.number, s.objects, s.fresh)

module _ (v w : View) (s t : Local) (seen : objects_seen w ≡ objects_seen v) (there : objects_there t ≡ objects_there s) (still : t.travels ≡ s.travels) where
  pub objects_stay : ShowsObjects v s → ShowsObjects w t
  objects_stay h = record {
    number = known (λ (x y : ℕ). x ≡ y) s.number t.number v.number w.number (ap (λ (x : ObjectsThere). x.0) there) (ap (λ (x : Objects). x.0) seen) h.number;
    objects = known (Agree is_standing) s.objects t.objects v.objects w.objects (ap (λ (x : ObjectsThere). x.1) there) (ap (λ (x : Objects). x.1) seen) h.objects;
    travels = known (Agree is_travel) s.travels t.travels v.travels w.travels still (ap (λ (x : Objects). x.2) seen) h.travels;
    fresh = known (λ (x y : List Id). x ≡ y) s.fresh t.fresh v.fresh w.fresh (ap (λ (x : ObjectsThere). x.2) there) (ap (λ (x : Objects). x.3) seen) h.fresh;
  }

-- ---- asks, which stay with what was given

abbrev pub Asks : Type 0
Asks = List Id × List Id

abbrev pub asks_seen : View → Asks
asks_seen v = (v.asking, v.asks)

abbrev pub AsksThere : Type 0
AsksThere = List Id × List Credit × List Id × List Id

abbrev pub asks_there : Local → AsksThere
asks_there s = (s.asked, s.given, s.asks_come, s.asks_gone)

abbrev IsAsking : AsksThere → Asks → Type 0
IsAsking x y = (o : Id) → count_by (same_object o) x.0 ≡ count_by (is_given o) x.1 + count_by (same_object o) y.0

abbrev AreAsks : AsksThere → Asks → Type 0
AreAsks x y = (o : Id) → count_by (same_object o) x.0 + count_by (same_object o) x.2
    ≡ count_by (is_given o) x.1 + count_by (same_object o) x.3 + count_by (same_object o) y.1

module _ (v w : View) (s t : Local) (seen : asks_seen w ≡ asks_seen v) (there : asks_there t ≡ asks_there s) where
  -- only the tokens change
  pub asks_stay : ShowsCredit v s → SameTokens t.tokens w.tokens → ShowsCredit w t
  asks_stay h tokens = record {
    tokens = tokens;
    asking = known IsAsking (asks_there s) (asks_there t) (asks_seen v) (asks_seen w) there seen h.asking;
    asks = known AreAsks (asks_there s) (asks_there t) (asks_seen v) (asks_seen w) there seen h.asks;
  }

module _ (v w : View) (s t : Local) (seen : asks_seen w ≡ asks_seen v) (there : asks_there t ≡ asks_there s)
    (tokens_seen : w.tokens ≡ v.tokens) (tokens_there : t.tokens ≡ s.tokens) where
  pub credit_stays : ShowsCredit v s → ShowsCredit w t
  credit_stays h = asks_stay v w s t seen there h (known SameTokens s.tokens t.tokens v.tokens w.tokens tokens_there tokens_seen h.tokens)

-- ---- counts

abbrev pub Counted : Type 0
Counted = ℕ × List Recorded × List Id × List Refusal × ℕ

abbrev pub counts_seen : View → Counted
counts_seen v = (v.here, v.live, v.dead, v.refusals, v.failing)

abbrev pub CountsThere : Type 0
CountsThere = List Recorded × List Refusal × ℕ × List Credit

abbrev pub counts_there : Local → CountsThere
counts_there s = (s.counts, s.refusals, s.failures, s.given)

abbrev AreLive : CountsThere → Counted → Type 0
AreLive x y = (o : Id) → o.home ≡ y.0 → count_in (find (is_recorded o) x.0) ≡ count_in (find (is_recorded o) y.1)

abbrev AreDead : CountsThere → Counted → Type 0
AreDead x y = AllByRecursion (λ o. list_any (is_dead_record o) x.0 ≡ true) y.2

abbrev AreRefused : CountsThere → Counted → Type 0
AreRefused x y = AllByRecursion (λ z. list_any (same_refusal z) x.1 ≡ true) y.3

abbrev MayFail : CountsThere → Counted → Type 0
MayFail x y = x.2 + y.4 ≤ count_by is_given_none x.3

module _ (v w : View) (s t : Local) (seen : counts_seen w ≡ counts_seen v) (there : counts_there t ≡ counts_there s) where
  pub counts_stay : ShowsCounts v s → ShowsCounts w t
  counts_stay h = record {
    live = known AreLive (counts_there s) (counts_there t) (counts_seen v) (counts_seen w) there seen h.live;
    dead = known AreDead (counts_there s) (counts_there t) (counts_seen v) (counts_seen w) there seen h.dead;
    refusals = known AreRefused (counts_there s) (counts_there t) (counts_seen v) (counts_seen w) there seen h.refusals;
    failing = known MayFail (counts_there s) (counts_there t) (counts_seen v) (counts_seen w) there seen h.failing;
  }
