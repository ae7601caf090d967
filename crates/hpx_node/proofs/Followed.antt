-- What follows a message that is dealt with, and what it writes.
use Rattle.hpx_node.proofs.Common.{Act, AskedFor, Bool, Commits, Continues, Entry, Event, Failing, Fails, Give, Gives, HasCredit, HasFollowed, HasInHand, Id, IfFollows, IsFailing, IsNext, IsParcel, IsReady, IsTidy, KeepsLaws, Leads, List, MayFollow, MayResume, Next, None, Option, Outcome, Parcel, Ready, Rules, Some, Standing, State, Tables, Turn, Waits, Writes, [], answered_by, any_at, ap, append-nil, arith, awaits, bare, bare_act, bare_state, brings_right, broken_near, committed_from, completes, dooms, due_left, effects, eq-eqb, failed_events, failed_remains, fails_first, false, find, find_at, full_stock, get_or, give_right, given_event, given_fails, given_waits, in_hand, is_asked_for, is_last, is_some, length, less_long, log_of, message_of, named, ne_eqb, not, plain, refl, remove, remove_set, rules_of, set, slice_get, some_same, state_left, subst, sym, true, ups_left, with_left, ℕ, ◌&&◌, ◌++◌, ◌+◌, ◌==◌, ◌||◌, ◌∙◌, ◌∷◌, ◌≡◌, ◌⊎◌}
use Rattle.hpx_node.proofs.Continued.{IsGiven, after_is, at, may_after, may_given, none_then, only_give}
use Rattle.hpx_node.proofs.FailsThen.{at as fails_at, found_then, given, left, must_then, only_fails, plan_then, refused}
use Rattle.hpx_node.proofs.Given.{still}
use Rattle.hpx_node.proofs.GoesOn.{goes_leads}
use Rattle.hpx_node.proofs.Paused.{paused_at}
use Rattle.hpx_node.proofs.ReadyStock.{brings_by}
use Rattle.hpx_steps.specs.Calls.{lands}
use Rattle.hpx_node.specs.declared.node.next.Next.TheVariants as nexts

-- what follows, what it writes, and that it leads back to rest, once what waits for an object that landed is released
pub record IsContinued (r : Rules) (s : Turn) (effects : List Event) (p : Parcel) (t mid t' : Tables) (entries entries' : List Entry) : Type 0 where
  pub more : List Event
  pub continues : Continues p t mid t' more
  pub writes : Writes more mid t' entries entries'
  pub leads : Leads r s (lands p) t' (effects ++ more)

not_both : (a l r : Bool) → (not a && (l && not r)) ≡ true → (l && (a || r)) ≡ true → ⊥
not_both true l r g h = cc
not_both false true true g h = cc
not_both false true false g h = cc
not_both false false r g h = cc

-- a commit that goes on does not fail
never_both : (id : Id) (o : Option Waits) → is_last id o ≡ true → fails_first id o ≡ true → ⊥
never_both id None g h = cc
never_both id (Some w) g h = not_both (log_of id.log == 0) (length w.asked == 1) (is_some w.refused) g h

-- ---- once a message is dealt with, what follows may follow

-- what is known of a message that was looked at
pub record IsRight (t : Tables) (p : Parcel) : Type 0 where
  pub tidy : IsTidy t []
  pub fit : IsParcel p
  pub right : broken_near t p ≡ None

abbrev Brings : Tables → Id → Type 0
Brings t id = HasCredit id × ((log_of id.log ≡ 0) ⊎ (log_of id.log ≡ t.profile.credit_log))

brings_so : (t : Tables) (p : Parcel) (id : Id) (entry : ℕ) → IsRight t p → p ≡ Give id entry → Brings t id
brings_so t p id entry k e = (
  subst IsParcel e k.fit,
  brings_by t id (give_right t (bare id) id entry (subst (λ q. broken_near t q ≡ None) e k.right)).1,
)

pub may_follow : (act_of : ℕ → ℕ → ℕ → State → Act → Outcome) (t : Tables) (n : ℕ) (d : List Parcel) (mid : Tables) (p : Parcel) (x : Next) → IsRight t p → IsNext act_of t p x
    → IsGiven p (record t { taken = n; desk = d }) mid → MayFollow mid x
may_follow act_of t n d mid p nexts.Rests k is gives = tt
may_follow act_of t n d mid p (nexts.GoesOn y) k is gives = only_give act_of t p y is (MayFollow mid (nexts.GoesOn y)) (λ id entry e ready.
    ((at act_of t n d mid id entry y ready (gives id entry e)).inside, may_given act_of t n d mid id entry y ready (gives id entry e)))
may_follow act_of t n d mid p (nexts.Fails y) k is gives = only_fails t p y is (MayFollow mid (nexts.Fails y)) (λ id entry e fails.
    let b = brings_so t p id entry k e in
    (must_then t n d mid id entry y fails (gives id entry e) k.tidy b.0 b.1, plan_then t n d mid id entry y fails (gives id entry e), fails.few))

-- the message that was looked at is the one that is taken up
pub next_first : (act_of : ℕ → ℕ → ℕ → State → Act → Outcome) (t m : Tables) (p q : Parcel) (rest : List Parcel) (x : Next) → m ≡ t → m.desk ≡ p ∷ rest
    → q ≡ get_or t.desk 0 q → IsNext act_of t q x → IsNext act_of t p x
next_first act_of t m p q rest x same first is next =
    subst (λ z. IsNext act_of t z x) (is ∙ ap (λ (d : List Parcel). get_or d 0 q) (sym (ap (λ (u : Tables). u.desk) same) ∙ first)) next

-- only a Give is followed by something
pub next_gives : (P : Type 0) (act_of : ℕ → ℕ → ℕ → State → Act → Outcome) (t : Tables) (p : Parcel) (x : Next) → IsNext act_of t p x → ((id : Id) (entry : ℕ) → p ≡ Give id entry → P) → IfFollows x P
next_gives P act_of t p nexts.Rests is h = tt
next_gives P act_of t p (nexts.GoesOn y) is h = only_give act_of t p y is P (λ id entry e ready. h id entry e)
next_gives P act_of t p (nexts.Fails y) is h = only_fails t p y is P (λ id entry e fails. h id entry e)

-- ---- it has followed

waits_on : (a l r : Bool) → (not a && (l && not r)) ≡ false → (l && (a || r)) ≡ false → l ≡ false
waits_on a false r g h = refl
waits_on true true r g h = cc
waits_on false true true g h = cc
waits_on false true false g h = cc

more_left : (xs : List AskedFor) (k : ℕ) (x : AskedFor) → slice_get xs k ≡ Some x → (length xs == 1) ≡ false → (length (remove xs k) == 0) ≡ false
more_left xs k x there one = ne_eqb (length (remove xs k)) 0 (λ none. let no : true ≡ false = sym (eq-eqb (length xs) 1 (omega (arith, none, less_long xs k x there))) ∙ one in cc)

module _ (act_of : ℕ → ℕ → ℕ → State → Act → Outcome)
    (blind : (n kind here : ℕ) (s : State) (a : Act) → act_of n kind here s a ≡ act_of n kind here (bare_state s) (named 0 0 (message_of (bare_act a))))
    (t : Tables) (n : ℕ) (d : List Parcel) (came mailed : List Parcel) (l : Option Event) (mid t' : Tables) (entries entries' : List Entry) where
  abbrev r : Rules
  r = rules_of act_of t.localities t.profile

  abbrev u : Tables
  u = record t { taken = n; desk = d }

  abbrev s : Turn
  s = in_hand u came mailed l

  module _ (id : Id) (entry : ℕ) (hand : HasInHand (Give id entry) (in_hand (record t { taken = n; desk = d }) came mailed l)) (k : IsRight t (Give id entry))
      (g : Gives id entry (record t { taken = n; desk = d }) mid) where
    credit : HasCredit id
    credit = k.fit

    right : brings_right t id ≡ true
    right = (give_right t (bare id) id entry k.right).1

    -- a commit went on
    module _ (y : Ready) (ready : IsReady act_of t id entry y) (running : t'.running ≡ mid.running) (pending : t'.pending ≡ remove mid.pending y.i)
        (writes : (w : Waits) → slice_get mid.pending y.i ≡ Some w
        → Writes (committed_from mid w.job w.outcome (full_stock mid w)) mid t' entries entries')
        (commits : (w : Waits) → slice_get mid.pending y.i ≡ Some w
        → Commits w.job w.outcome (full_stock mid w) y.j (record mid { pending = remove mid.pending y.i }) t') where
      completes_is : is_last id (find (awaits id entry) t.pending) ≡ true
      completes_is = ap (is_last id) (find_at (awaits id entry) t.pending y.i ready.before ready.there ready.for ready.first) ∙ ready.last

      place_is : g.i ≡ y.i
      place_is = (at act_of t n d mid id entry y ready g).place

      after_there : slice_get mid.pending y.i ≡ Some g.after
      after_there = (at act_of t n d mid id entry y ready g).now

      same : g.after ≡ record ready.before { hand = g.after.hand; asked = g.after.asked; refused = g.after.refused }
      same = after_is act_of t n d mid id entry y ready g

      may : MayResume mid g.after y.j y.prepared
      may = may_after act_of t n d mid id entry y ready g

      laws : KeepsLaws t.localities g.after.job.kind g.after.job.at g.after.job.state (plain g.after.job.action) g.after.outcome
      laws = subst (λ (w : Waits). KeepsLaws t.localities w.job.kind w.job.at w.job.state (plain w.job.action) w.outcome) (sym same) ready.laws

      its_outcome : g.after.outcome ≡ act_of t.localities g.after.job.kind g.after.job.at g.after.job.state (plain g.after.job.action)
      its_outcome = subst (λ (w : Waits). w.outcome ≡ act_of t.localities w.job.kind w.job.at w.job.state (plain w.job.action)) (sym same) ready.right

      done_leads : Leads r s None t' (given_event id ∷ committed_from mid g.after.job g.after.outcome (full_stock mid g.after))
      done_leads =
          subst (λ (m : Tables). Leads r s None t' (given_event id ∷ committed_from m g.after.job g.after.outcome (full_stock m g.after))) (sym g.rest)
          (goes_leads act_of blind t n d came mailed l mid t' id entry hand credit right g k.tidy y.j y.prepared laws its_outcome
          (none_then act_of t n d mid id entry y ready g)
          (subst (λ (m : Tables). MayResume m g.after y.j y.prepared) g.rest may)
          (subst (λ ws. Commits g.after.job g.after.outcome (full_stock u g.after) y.j (record u { pending = ws }) t')
          (ap (remove (set t.pending g.i g.after)) (sym place_is) ∙ remove_set t.pending g.i g.after)
          (subst (λ (m : Tables). Commits g.after.job g.after.outcome (full_stock m g.after) y.j (record m { pending = remove m.pending y.i }) t') g.rest (commits g.after after_there))))

      went_on : IsContinued r s (effects t (Give id entry)) (Give id entry) u mid t' entries entries'
      went_on = record {
        more = committed_from mid g.after.job g.after.outcome (full_stock mid g.after);
        continues = record {
          rests = λ no none. absurd (let e : true ≡ false = sym completes_is ∙ no in cc);
          goes = λ yes. record {
            gives = g;
            goes = record {
              j = y.j;
              what = refl;
              pending = pending ∙ ap (remove mid.pending) (sym place_is);
              running = running;
              commits = subst (λ i. Commits g.after.job g.after.outcome (full_stock mid g.after) y.j (record mid { pending = remove mid.pending i }) t') (sym place_is)
                  (commits g.after after_there);
            };
          };
          fails = λ yes. absurd (never_both id (find (awaits id entry) t.pending) completes_is yes);
        };
        writes = writes g.after after_there;
        leads = done_leads;
      }

    -- an action failed
    module _ (y : Failing) (is : IsFailing t id entry y) (fails : Fails y.i y.j mid t')
        (writes : (w : Waits) → slice_get mid.pending y.i ≡ Some w → Writes (failed_events mid w) mid t' entries entries') where
      dooms_is : fails_first id (find (awaits id entry) t.pending) ≡ true
      dooms_is = ap (fails_first id) (find_at (awaits id entry) t.pending y.i is.commit is.there is.for is.first) ∙ is.last

      failed_at : g.i ≡ y.i
      failed_at = (fails_at t n d mid id entry y is g).place

      same_commit : fails.commit ≡ g.after
      same_commit = some_same fails.commit g.after (sym fails.there ∙ (fails_at t n d mid id entry y is g).now)

      x_is : fails.standing ≡ is.place.standing
      x_is = some_same fails.standing is.place.standing (sym fails.stands ∙ (ap (λ (m : Tables). slice_get m.objects y.j) g.rest ∙ is.place.stands))

      abbrev to : Tables → ℕ → Waits → Standing → Tables
      to m i w x = with_left (due_left w) (ups_left w) (record m {
        pending = remove m.pending i;
        objects = set m.objects y.j (record { object = x.object; state = state_left w });
        answered = m.answered + answered_by (Some w.job.action);
      })

      end_is : t' ≡ to u g.i g.after is.place.standing
      end_is = fails.rest ∙ rw (same_commit, x_is, ← failed_at) (ap (λ m. to m g.i g.after is.place.standing) g.rest
          ∙ ap (λ ws. with_left (due_left g.after) (ups_left g.after) (record u {
            pending = ws;
            objects = set t.objects y.j (record { object = is.place.standing.object; state = state_left g.after });
            answered = t.answered + answered_by (Some g.after.job.action);
          })) (remove_set t.pending g.i g.after))

      failed_leads : Leads r s None t' (given_event id ∷ failed_events mid g.after)
      failed_leads =
          let o = refused t n d mid id entry y is g in
          subst (λ (m : Tables). Leads r s None t' (given_event id ∷ failed_events m g.after)) (sym g.rest)
          (subst (λ (z : Tables). Leads r s None z (given_event id ∷ failed_events u g.after)) (sym end_is)
          (given_fails r u mid came mailed l id entry hand credit right g (given t n d mid id entry y is g)
          (still t g.before g.after id entry (paused_at t g.i g.before k.tidy g.there) g.refills credit (brings_by t id right)).other o.0 y.j is.place.standing (failed_remains g.after) o.1
          is.place.stands (found_then t n d mid id entry y is g)
          (left t n d mid id entry y is g k.tidy credit (brings_by t id right))))

      failed : IsContinued r s (effects t (Give id entry)) (Give id entry) u mid t' entries entries'
      failed = record {
        more = failed_events mid g.after;
        continues = record {
          rests = λ no none. absurd (let e : true ≡ false = sym dooms_is ∙ none in cc);
          goes = λ yes. absurd (never_both id (find (awaits id entry) t.pending) yes dooms_is);
          fails = λ yes. record {
            gives = g;
            j = y.j;
            fails = subst (λ i. Fails i y.j mid t') (sym failed_at) fails;
            what = refl;
          };
        };
        writes = writes g.after ((fails_at t n d mid id entry y is g).now);
        leads = failed_leads;
      }

    -- the commit waits on
    waiting_leads : is_last id (find (awaits id entry) t.pending) ≡ false → fails_first id (find (awaits id entry) t.pending) ≡ false → Leads r s None mid (given_event id ∷ [])
    waiting_leads rest safe =
        let for : awaits id entry g.before ≡ true = any_at (is_asked_for g.before id entry) g.before.asked g.refills.k g.refills.ask g.refills.there g.refills.for in
        let found : find (awaits id entry) t.pending ≡ Some g.before = find_at (awaits id entry) t.pending g.i g.before g.there for g.first in
        let one : (length g.before.asked == 1) ≡ false = waits_on (log_of id.log == 0) (length g.before.asked == 1) (is_some g.before.refused)
        (ap (is_last id) (sym found) ∙ rest) (ap (fails_first id) (sym found) ∙ safe) in
        given_waits r s mid id entry (record { due = refl; fresh = refl }) hand credit right g
        (ap (λ (w : Waits). length w.asked == 0) g.refills.now ∙ more_left g.before.asked g.refills.k g.refills.ask g.refills.there one)

  -- nothing followed
  rested : (p : Parcel) → completes t p ≡ false → dooms t p ≡ false → t' ≡ mid → entries' ≡ entries → Leads r s (lands p) mid (effects t p)
      → IsContinued r s (effects t p) p u mid t' entries entries'
  rested p none safe same still leads = record {
    more = [];
    continues = record {
      rests = λ no nor. (same, refl);
      goes = λ yes. absurd (let e : true ≡ false = sym yes ∙ ((alike p).0 ∙ none) in cc);
      fails = λ yes. absurd (let e : true ≡ false = sym yes ∙ ((alike p).1 ∙ safe) in cc);
    };
    writes = record {
      here = ap (λ (x : Tables). x.here) same;
      localities = ap (λ (x : Tables). x.localities) same;
      profile = ap (λ (x : Tables). x.profile) same;
      grows = still ∙ sym (append-nil entries);
    };
    leads = subst (Leads r s (lands p) t') (sym (append-nil (effects t p))) (subst (λ z. Leads r s (lands p) z (effects t p)) (sym same) leads);
  }
    where
      alike : (p : Parcel) → (completes u p ≡ completes t p) × (dooms u p ≡ dooms t p)
      alike (Give id entry) = (refl, refl)
      alike _ = (refl, refl)

  -- a message that was dealt with: credit that is given, or another
  dealt_leads : (p : Parcel) → HasInHand p (in_hand (record t { taken = n; desk = d }) came mailed l) → IsRight t p → IsGiven p (record t { taken = n; desk = d }) mid
      → (((id : Id) (entry : ℕ) → p ≡ Give id entry → ⊥) → Leads r s (lands p) mid (effects t p)) → completes t p ≡ false → dooms t p ≡ false → Leads r s (lands p) mid (effects t p)
  dealt_leads (Give id entry) hand k gives other rest safe = waiting_leads id entry hand k (gives id entry refl) rest safe
  dealt_leads _ hand k gives other rest safe = other (λ id entry e. absurd (cc))

  pub is_continued : (p : Parcel) (x : Next) → IsNext act_of t p x → HasInHand p (in_hand (record t { taken = n; desk = d }) came mailed l) → IsRight t p
      → IsGiven p (record t { taken = n; desk = d }) mid
      → (((id : Id) (entry : ℕ) → p ≡ Give id entry → ⊥) → Leads (rules_of act_of t.localities t.profile) (in_hand (record t { taken = n; desk = d }) came mailed l) (lands p) mid (effects t p))
      → t'.running ≡ mid.running → HasFollowed x mid t' entries entries'
      → IsContinued (rules_of act_of t.localities t.profile) (in_hand (record t { taken = n; desk = d }) came mailed l) (effects t p) p (record t { taken = n; desk = d }) mid t' entries entries'
  is_continued p nexts.Rests is hand k gives other running followed =
      rested p is.0 is.1 followed.0 followed.1 (dealt_leads p hand k gives other is.0 is.1)
  is_continued p (nexts.GoesOn y) is hand k gives other running followed =
      only_give act_of t p y is (IsContinued r s (effects t p) p u mid t' entries entries') (λ id entry e ready.
      subst (λ q. IsContinued r s (effects t q) q u mid t' entries entries') (sym e)
      (went_on id entry (subst (λ q. HasInHand q s) e hand) (subst (IsRight t) e k) (gives id entry e) y ready running followed.0 followed.1 followed.2))
  is_continued p (nexts.Fails y) is hand k gives other running followed =
      only_fails t p y is (IsContinued r s (effects t p) p u mid t' entries entries') (λ id entry e fails.
      subst (λ q. IsContinued r s (effects t q) q u mid t' entries entries') (sym e)
      (failed id entry (subst (λ q. HasInHand q s) e hand) (subst (IsRight t) e k) (gives id entry e) y fails followed.0 followed.1))
