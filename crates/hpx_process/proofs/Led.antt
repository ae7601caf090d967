-- How a process that was to be a member ends, of how its member did.
use Rattle.std.specs.Prelude.{◌≢◌, ◌≤◌, ◌⊎◌}
use Rattle.std.proofs.Common.{ℕ, zero, suc, Bool, List, ◌≡◌, Option, Some, None, refl, sym, ap, ◌∙◌, subst, arith, inl, inr}
use Rattle.hpx_counters.specs.declared.counter.Counter.{Counter}
use Rattle.hpx_journal.specs.Entries.{Rules}
use Rattle.hpx_member.specs.Leads.{IsConsolesStatus}
use Rattle.hpx_member.specs.Stops.{IsWorkersStatus}
use Rattle.hpx_ports.specs.Faults.{Rose}
use Rattle.hpx_steps.specs.Rest.{rules_of}
use Rattle.hpx_top.specs.Acts.{act_of}
use Rattle.hpx_top.specs.Printed.{HasCounted}
use Rattle.hpx_top.specs.Runs.{Ports, ports_of}
use Rattle.hpx_process.specs.Members.{HasDone, HasJoined, HasLed, HasMembersCause, HasReckoned, HasSat, HasWritten, IsConsole, IsOfRole, IsWorker, Left}
use Rattle.hpx_process.specs.Memberships.{problem_line}
use Rattle.hpx_process.specs.declared.membership.Errand.{Errand}
use Rattle.hpx_process.specs.declared.membership.Errand.TheVariants.{Session, Problem}
use Rattle.hpx_process.specs.declared.membership.Membership.{Membership}
use Rattle.hpx_process.specs.declared.membership.Role.TheVariants.{Console, Worker}
use Rattle.hpx_process.specs.declared.problem.Problem as Problems

-- ---- what was led

abbrev rules_in : Membership → Rules
rules_in membership = rules_of act_of membership.localities membership.profile

led_by : (membership : Membership) (errand : Errand) (items : List Counter) (status : ℕ) (m : Left) (x mid : Ports) (text : Option (List ℕ)) (writes : ℕ) → membership.errand ≡ errand
    → items ≡ membership.counters.items → HasDone (rules_in membership) errand m x mid → HasCounted items status m.status m.entries mid.text text
    → HasLed membership status m x (record mid { text = text; write_faults = writes })
led_by membership errand items status m x mid text writes is all done counted = record {
  mid = mid;
  did = subst (λ e. HasDone (rules_in membership) e m x mid) (sym is) done;
  counted = subst (λ l. HasCounted l status m.status m.entries mid.text text) all counted;
  still = refl;
}

pub session_led : {M : Type 0} {S : Type 0} {K : Type 0} (lf : M → Left) (left : S → Option (List ℕ)) (taken reads : S → ℕ) (held : K → Option (List ℕ)) (writes : K → ℕ)
    (membership : Membership) (items : List Counter) (status : ℕ) (x : Ports) (m n : M) (s t : S) (k l z : K) → membership.errand ≡ Session → items ≡ membership.counters.items → m ≡ n → s ≡ t → k ≡ l
    → HasSat (rules_in membership) (lf n) x (ports_of (left t) (taken t) (held l) (reads t) (writes l) 0) → HasCounted items status (lf m).status (lf m).entries (held k) (held z)
    → HasLed membership status (lf m) x (ports_of (left s) (taken s) (held z) (reads s) (writes z) 0)
session_led lf left taken reads held writes membership items status x m n s t k l z is all member source sink sat counted =
    led_by membership Session items status (lf m) x (ports_of (left s) (taken s) (held k) (reads s) (writes k) 0) (held z) (writes z) is all
    (subst (λ a. HasSat (rules_in membership) (lf a) x (ports_of (left s) (taken s) (held k) (reads s) (writes k) 0)) (sym member)
    (subst (λ a. HasSat (rules_in membership) (lf n) x (ports_of (left a) (taken a) (held k) (reads a) (writes k) 0)) (sym source)
    (subst (λ a. HasSat (rules_in membership) (lf n) x (ports_of (left t) (taken t) (held a) (reads t) (writes a) 0)) (sym sink) sat)))
    counted

reckoned_wide : (r : Rules) (line : List ℕ) (m : Left) (left : Option (List ℕ)) (taken reads : ℕ) (t u : Option (List ℕ)) (w v : ℕ)
    → HasReckoned r line m (ports_of None 0 t 0 w 0) (ports_of None 0 u 0 v 0) → HasReckoned r line m (ports_of left taken t reads w 0) (ports_of left taken u reads v 0)
reckoned_wide r line m left taken reads t u w v h = record { asked = h.asked; served = h.served; fed = h.fed; front = h.front; whole = h.whole; due = h.due; unread = (refl, refl) }

pub problem_led : {M : Type 0} {S : Type 0} {K : Type 0} (lf : M → Left) (left : S → Option (List ℕ)) (taken reads : S → ℕ) (held : K → Option (List ℕ)) (writes : K → ℕ)
    (membership : Membership) (problem : Problems.Problem) (items : List Counter) (status : ℕ) (m n : M) (s t : S) (o k l z : K) → membership.errand ≡ Problem problem
    → items ≡ membership.counters.items → m ≡ n → s ≡ t → k ≡ l
    → HasReckoned (rules_in membership) (problem_line problem) (lf n) (ports_of None 0 (held o) 0 (writes o) 0) (ports_of None 0 (held l) 0 (writes l) 0)
    → HasCounted items status (lf m).status (lf m).entries (held k) (held z)
    → HasLed membership status (lf m) (ports_of (left t) (taken t) (held o) (reads t) (writes o) 0) (ports_of (left s) (taken s) (held z) (reads s) (writes z) 0)
problem_led lf left taken reads held writes membership problem items status m n s t o k l z is all member source sink reckoned counted =
    subst (λ a. HasLed membership status (lf m) (ports_of (left t) (taken t) (held o) (reads t) (writes o) 0) (ports_of (left a) (taken a) (held z) (reads a) (writes z) 0)) (sym source)
    (led_by membership (Problem problem) items status (lf m) (ports_of (left t) (taken t) (held o) (reads t) (writes o) 0) (ports_of (left t) (taken t) (held k) (reads t) (writes k) 0) (held z) (writes z) is all
    (reckoned_wide (rules_in membership) (problem_line problem) (lf m) (left t) (taken t) (reads t) (held o) (held k) (writes o) (writes k)
    (subst (λ a. HasReckoned (rules_in membership) (problem_line problem) (lf a) (ports_of None 0 (held o) 0 (writes o) 0) (ports_of None 0 (held k) 0 (writes k) 0)) (sym member)
    (subst (λ a. HasReckoned (rules_in membership) (problem_line problem) (lf n) (ports_of None 0 (held o) 0 (writes o) 0) (ports_of None 0 (held a) 0 (writes a) 0)) (sym sink) reckoned)))
    counted)

-- ---- its cause

counted_cause : (status ended link : ℕ) (x mid : Ports) (text : Option (List ℕ)) (writes : ℕ) → HasMembersCause ended link x mid → (ended ≢ 0 → (status ≡ ended) × (writes ≡ mid.write_faults))
    → (ended ≡ 0 → ((status ≡ 0) × (writes ≡ mid.write_faults)) ⊎ ((status ≡ 3) × Rose mid.write_faults writes))
    → HasMembersCause status link x (record mid { text = text; write_faults = writes })
counted_cause status ended link x mid text writes cause other well = by ended refl
  where
    ended_well : ended ≡ 0 → ((status ≡ 0) × (writes ≡ mid.write_faults)) ⊎ ((status ≡ 3) × Rose mid.write_faults writes)
        → HasMembersCause status link x (record mid { text = text; write_faults = writes })
    ended_well is (inl h) = record {
      read = λ s. absurd (let no = h.0 in omega (arith, s, no));
      write = λ s. absurd (let no = h.0 in omega (arith, s, no));
      frame = λ s. absurd (let no = h.0 in omega (arith, s, no));
      input = λ s. absurd (let no = h.0 in omega (arith, s, no));
      read_only = λ s. cause.read_only (λ e. omega (arith, e, is));
      write_only = λ s. h.1 ∙ cause.write_only (λ e. omega (arith, e, is));
      frame_only = λ s. cause.frame_only (λ e. omega (arith, e, is));
      limit = cause.limit;
    }
    ended_well is (inr h) = record {
      read = λ s. absurd (let no = h.0 in omega (arith, s, no));
      write = λ s. subst (λ w. Rose w writes) (cause.write_only (λ e. omega (arith, e, is))) h.1;
      frame = λ s. absurd (let no = h.0 in omega (arith, s, no));
      input = λ s. absurd (let no = h.0 in omega (arith, s, no));
      read_only = λ s. cause.read_only (λ e. omega (arith, e, is));
      write_only = λ s. absurd (s h.0);
      frame_only = λ s. cause.frame_only (λ e. omega (arith, e, is));
      limit = cause.limit;
    }

    ended_so : (status ≡ ended) × (writes ≡ mid.write_faults) → HasMembersCause status link x (record mid { text = text; write_faults = writes })
    ended_so h = subst (λ s. HasMembersCause s link x (record mid { text = text; write_faults = writes })) (sym h.0) (record {
      read = cause.read;
      write = λ s. subst (Rose x.write_faults) (sym h.1) (cause.write s);
      frame = cause.frame;
      input = cause.input;
      read_only = cause.read_only;
      write_only = λ s. h.1 ∙ cause.write_only s;
      frame_only = cause.frame_only;
      limit = cause.limit;
    })

    by : (n : ℕ) → ended ≡ n → HasMembersCause status link x (record mid { text = text; write_faults = writes })
    by zero is = ended_well is (well is)
    by (suc n) is = ended_so (other (λ e. omega (arith, e, is)))

pub session_cause : {M : Type 0} {S : Type 0} {K : Type 0} (lf : M → Left) (left : S → Option (List ℕ)) (taken reads : S → ℕ) (held : K → Option (List ℕ)) (writes : K → ℕ)
    (status : ℕ) (x : Ports) (m n : M) (s t : S) (k l z : K) → m ≡ n → s ≡ t → k ≡ l
    → HasMembersCause (lf n).status (lf n).faults x (ports_of (left t) (taken t) (held l) (reads t) (writes l) 0) → ((lf m).status ≢ 0 → (status ≡ (lf m).status) × (z ≡ k))
    → ((lf m).status ≡ 0 → ((status ≡ 0) × (writes z ≡ writes k)) ⊎ ((status ≡ 3) × Rose (writes k) (writes z)))
    → HasMembersCause status (lf m).faults x (ports_of (left s) (taken s) (held z) (reads s) (writes z) 0)
session_cause lf left taken reads held writes status x m n s t k l z member source sink cause other well =
    counted_cause status (lf m).status (lf m).faults x (ports_of (left s) (taken s) (held k) (reads s) (writes k) 0) (held z) (writes z)
    (subst (λ a. HasMembersCause (lf a).status (lf a).faults x (ports_of (left s) (taken s) (held k) (reads s) (writes k) 0)) (sym member)
    (subst (λ a. HasMembersCause (lf n).status (lf n).faults x (ports_of (left a) (taken a) (held k) (reads a) (writes k) 0)) (sym source)
    (subst (λ a. HasMembersCause (lf n).status (lf n).faults x (ports_of (left t) (taken t) (held a) (reads t) (writes a) 0)) (sym sink) cause)))
    (λ no. ((other no).0, ap writes (other no).1)) well

pub problem_cause : {M : Type 0} {S : Type 0} {K : Type 0} (lf : M → Left) (left : S → Option (List ℕ)) (taken reads : S → ℕ) (held : K → Option (List ℕ)) (writes : K → ℕ)
    (status : ℕ) (m n : M) (s t : S) (o k l z : K) → m ≡ n → s ≡ t → k ≡ l
    → HasMembersCause (lf n).status (lf n).faults (ports_of None 0 (held o) 0 (writes o) 0) (ports_of None 0 (held l) 0 (writes l) 0) → ((lf n).status ≢ 2) × ((lf n).status ≢ 9)
    → ((lf m).status ≢ 0 → (status ≡ (lf m).status) × (z ≡ k)) → ((lf m).status ≡ 0 → ((status ≡ 0) × (writes z ≡ writes k)) ⊎ ((status ≡ 3) × Rose (writes k) (writes z)))
    → HasMembersCause status (lf m).faults (ports_of (left t) (taken t) (held o) (reads t) (writes o) 0) (ports_of (left s) (taken s) (held z) (reads s) (writes z) 0)
problem_cause lf left taken reads held writes status m n s t o k l z member source sink cause neither other well =
    session_cause lf left taken reads held writes status (ports_of (left t) (taken t) (held o) (reads t) (writes o) 0) m n s t k l z member source sink
    (record {
      read = λ e. absurd (neither.0 e);
      write = cause.write;
      frame = cause.frame;
      input = λ e. absurd (neither.1 e);
      read_only = λ e. refl;
      write_only = cause.write_only;
      frame_only = cause.frame_only;
      limit = omega (arith);
    }) other well

-- what reads nothing ends neither with 2 nor with 9, its counters written or not
pub not_read : (status ended : ℕ) → (ended ≢ 2) × (ended ≢ 9) → (ended ≢ 0 → status ≡ ended) → (ended ≡ 0 → (status ≡ 0) ⊎ (status ≡ 3)) → (status ≢ 2) × (status ≢ 9)
not_read status ended neither other well = by ended refl
  where
    ended_well : (status ≡ 0) ⊎ (status ≡ 3) → (status ≢ 2) × (status ≢ 9)
    ended_well (inl h) = (λ s. omega (arith, s, h), λ s. omega (arith, s, h))
    ended_well (inr h) = (λ s. omega (arith, s, h), λ s. omega (arith, s, h))

    by : (n : ℕ) → ended ≡ n → (status ≢ 2) × (status ≢ 9)
    by zero is = ended_well (well is)
    by (suc n) is = let same = other (λ e. omega (arith, e, is)) in (λ s. neither.0 (sym same ∙ s), λ s. neither.1 (sym same ∙ s))

ended_plainly : (status : ℕ) (A B : Type 0) → ((status ≡ 0) × A) ⊎ ((status ≡ 3) × B) → (status ≡ 0) ⊎ (status ≡ 3)
ended_plainly status A B (inl h) = inl h.0
ended_plainly status A B (inr h) = inr h.0

-- so of what a console computes
pub problem_not_read : {M : Type 0} {K : Type 0} (lf : M → Left) (writes : K → ℕ) (status : ℕ) (m n : M) (k z : K) → m ≡ n → ((lf n).status ≢ 2) × ((lf n).status ≢ 9)
    → ((lf m).status ≢ 0 → (status ≡ (lf m).status) × (z ≡ k)) → ((lf m).status ≡ 0 → ((status ≡ 0) × (writes z ≡ writes k)) ⊎ ((status ≡ 3) × Rose (writes k) (writes z)))
    → (status ≢ 2) × (status ≢ 9)
problem_not_read lf writes status m n k z member neither other well =
    not_read status (lf m).status (subst (λ a. ((lf a).status ≢ 2) × ((lf a).status ≢ 9)) (sym member) neither) (λ no. (other no).0) (λ is. ended_plainly status _ _ (well is))

-- ---- the whole

framed_done : (r : Rules) (errand : Errand) (m : Left) (x mid : Ports) (f : ℕ) → HasDone r errand m x mid → HasDone r errand m (record x { frame_faults = f }) (record mid { frame_faults = f })
framed_done r Session m x mid f h = record { sheet = h.sheet; reading = h.reading; served = h.served; reads = h.reads; whole = h.whole; read_up = h.read_up; between_lines = h.between_lines; due = h.due }
framed_done r (Problem problem) m x mid f h = record { asked = h.asked; served = h.served; fed = h.fed; front = h.front; whole = h.whole; due = h.due; unread = h.unread }

framed_led : (membership : Membership) (status : ℕ) (m : Left) (x z : Ports) (f : ℕ) → HasLed membership status m x z → HasLed membership status m (record x { frame_faults = f }) (record z { frame_faults = f })
framed_led membership status m x z f h = record {
  mid = record h.mid { frame_faults = f };
  did = framed_done (rules_in membership) membership.errand m x h.mid f h.did;
  counted = h.counted;
  still = ap {A = Ports} {B = Ports} (λ p. record p { frame_faults = f }) h.still;
}

never_rose : Rose 0 0 → ⊥
never_rose h = omega (arith, h)

framed_cause : (status link : ℕ) (x z : Ports) (f : ℕ) → x.frame_faults ≡ 0 → z.frame_faults ≡ 0 → HasMembersCause status link x z
    → HasMembersCause status link (record x { frame_faults = f }) (record z { frame_faults = f })
framed_cause status link x z f old new h = record {
  read = h.read;
  write = h.write;
  frame = λ s. link_rose (subst (λ n. Rose n 0 ⊎ Rose 0 link) old (subst (λ n. Rose x.frame_faults n ⊎ Rose 0 link) new (h.frame s)));
  input = h.input;
  read_only = h.read_only;
  write_only = h.write_only;
  frame_only = λ s. (refl, (h.frame_only s).1);
  limit = h.limit;
}
  where
    link_rose : Rose 0 0 ⊎ Rose 0 link → Rose f f ⊎ Rose 0 link
    link_rose (inl a) = absurd (never_rose a)
    link_rose (inr a) = inr a

-- of a console
pub console_joined : (membership : Membership) (settles : Bool) (status : ℕ) (m : Left) (x z : Ports) (f g : ℕ) → x.frame_faults ≡ 0 → z.frame_faults ≡ 0 → membership.role ≡ Console settles → g ≡ f
    → IsConsolesStatus status → IsConsole membership.localities membership.profile settles m → HasLed membership status m x z → HasMembersCause status m.faults x z
    → HasJoined membership status (Some m) (record x { frame_faults = f }) (record z { frame_faults = g })
console_joined membership settles status m x z f g old new role same ends console led cause =
    subst (λ n. HasJoined membership status (Some m) (record x { frame_faults = f }) (record z { frame_faults = n })) (sym same) (record {
      ends = ends;
      cause = framed_cause status m.faults x z f old new cause;
      unlinked = λ none. absurd (let no : Some m ≡ None = none in cc);
      was = subst (IsOfRole membership m) (sym role) console;
      wrote = subst (HasWritten membership status m (record x { frame_faults = f }) (record z { frame_faults = f })) (sym role) (framed_led membership status m x z f led);
    })

workers_ends : (status : ℕ) → IsWorkersStatus status → IsConsolesStatus status
workers_ends status (inl h) = inl h
workers_ends status (inr h) = inr (let low = h.0 in omega (arith, low), let high = h.1 in omega (arith, high))

not_workers : (status n : ℕ) → IsWorkersStatus status → status ≡ n → ((1 ≤ n) × (n ≤ 3)) ⊎ (9 ≤ n) → ⊥
not_workers status n (inl h) is (inl o) = let low = o.0 in omega (arith, h, is, low)
not_workers status n (inl h) is (inr o) = omega (arith, h, is, o)
not_workers status n (inr h) is (inl o) = let low = h.0 in let high = o.1 in omega (arith, low, is, high)
not_workers status n (inr h) is (inr o) = let high = h.1 in omega (arith, high, is, o)

-- a worker reads nothing
pub worker_not_read : (status ended : ℕ) → status ≡ ended → IsWorkersStatus ended → (status ≢ 2) × (status ≢ 9)
worker_not_read status ended same ends =
    (λ s. not_workers ended 2 ends (sym same ∙ s) (inl (omega (arith), omega (arith))), λ s. not_workers ended 9 ends (sym same ∙ s) (inr (omega (arith))))

-- of a worker
pub worker_joined : (membership : Membership) (node : ℕ) (m : Left) (x : Ports) (g : ℕ) → membership.role ≡ Worker node → g ≡ x.frame_faults
    → IsWorker membership.localities membership.profile node m → HasJoined membership m.status (Some m) x (record x { frame_faults = g })
worker_joined membership node m x g role same worker = record {
  ends = workers_ends m.status worker.ends;
  cause = record {
    read = λ s. absurd (not_workers m.status 2 worker.ends s (inl (omega (arith), omega (arith))));
    write = λ s. absurd (not_workers m.status 3 worker.ends s (inl (omega (arith), omega (arith))));
    frame = λ s. inr (worker.member.failed s);
    input = λ s. absurd (not_workers m.status 9 worker.ends s (inr (omega (arith))));
    read_only = λ s. refl;
    write_only = λ s. refl;
    frame_only = λ s. (same, worker.member.calm s);
    limit = omega (arith);
  };
  unlinked = λ none. absurd (let no : Some m ≡ None = none in cc);
  was = subst (IsOfRole membership m) (sym role) worker;
  wrote = subst (HasWritten membership m.status m x (record x { frame_faults = g })) (sym role) (refl, record { ports = refl });
}

-- where there is no member
pub nobody_joined : (membership : Membership) (status : ℕ) (x : Ports) (g : ℕ) → (status ≡ 4) × Rose x.frame_faults g ⊎ (status ≡ 6) × (g ≡ x.frame_faults)
    → HasJoined membership status None x (record x { frame_faults = g })
nobody_joined membership status x g h = record {
  ends = ends h;
  cause = cause h;
  unlinked = λ none. (which h, record { ports = refl });
  was = tt;
  wrote = tt;
}
  where
    which : (status ≡ 4) × Rose x.frame_faults g ⊎ (status ≡ 6) × (g ≡ x.frame_faults) → (status ≡ 4) ⊎ (status ≡ 6)
    which (inl h) = inl h.0
    which (inr h) = inr h.0

    ends : (status ≡ 4) × Rose x.frame_faults g ⊎ (status ≡ 6) × (g ≡ x.frame_faults) → IsConsolesStatus status
    ends (inl h) = inr (let is = h.0 in omega (arith, is), let is = h.0 in omega (arith, is))
    ends (inr h) = inr (let is = h.0 in omega (arith, is), let is = h.0 in omega (arith, is))

    cause : (status ≡ 4) × Rose x.frame_faults g ⊎ (status ≡ 6) × (g ≡ x.frame_faults) → HasMembersCause status 0 x (record x { frame_faults = g })
    cause (inl h) = record {
      read = λ s. absurd (let is = h.0 in omega (arith, s, is));
      write = λ s. absurd (let is = h.0 in omega (arith, s, is));
      frame = λ s. inl h.1;
      input = λ s. absurd (let is = h.0 in omega (arith, s, is));
      read_only = λ s. refl;
      write_only = λ s. refl;
      frame_only = λ s. absurd (s h.0);
      limit = omega (arith);
    }
    cause (inr h) = record {
      read = λ s. absurd (let is = h.0 in omega (arith, s, is));
      write = λ s. absurd (let is = h.0 in omega (arith, s, is));
      frame = λ s. absurd (let is = h.0 in omega (arith, s, is));
      input = λ s. absurd (let is = h.0 in omega (arith, s, is));
      read_only = λ s. refl;
      write_only = λ s. refl;
      frame_only = λ s. (h.1, refl);
      limit = omega (arith);
    }

-- ---- by what was called

pub console_by : {M : Type 0} {S : Type 0} {K : Type 0} (lf : M → Left) (left : S → Option (List ℕ)) (taken reads : S → ℕ) (held : K → Option (List ℕ)) (writes : K → ℕ)
    (membership : Membership) (settles : Bool) (f g : ℕ) (e d : ℕ × M) (o s t : S) (q k l : K) → membership.role ≡ Console settles → g ≡ f → e ≡ d → s ≡ t → k ≡ l
    → IsConsolesStatus d.0 → IsConsole membership.localities membership.profile settles (lf d.1)
    → HasLed membership d.0 (lf d.1) (ports_of (left o) (taken o) (held q) (reads o) (writes q) 0) (ports_of (left t) (taken t) (held l) (reads t) (writes l) 0)
    → HasMembersCause d.0 (lf d.1).faults (ports_of (left o) (taken o) (held q) (reads o) (writes q) 0) (ports_of (left t) (taken t) (held l) (reads t) (writes l) 0)
    → HasJoined membership e.0 (Some (lf e.1)) (ports_of (left o) (taken o) (held q) (reads o) (writes q) f) (ports_of (left s) (taken s) (held k) (reads s) (writes k) g)
console_by lf left taken reads held writes membership settles f g e d o s t q k l role same end source sink ends console led cause =
    subst (λ a. HasJoined membership a.0 (Some (lf a.1)) (ports_of (left o) (taken o) (held q) (reads o) (writes q) f) (ports_of (left s) (taken s) (held k) (reads s) (writes k) g)) (sym end)
    (subst (λ a. HasJoined membership d.0 (Some (lf d.1)) (ports_of (left o) (taken o) (held q) (reads o) (writes q) f) (ports_of (left a) (taken a) (held k) (reads a) (writes k) g)) (sym source)
    (subst (λ a. HasJoined membership d.0 (Some (lf d.1)) (ports_of (left o) (taken o) (held q) (reads o) (writes q) f) (ports_of (left t) (taken t) (held a) (reads t) (writes a) g)) (sym sink)
    (console_joined membership settles d.0 (lf d.1) (ports_of (left o) (taken o) (held q) (reads o) (writes q) 0) (ports_of (left t) (taken t) (held l) (reads t) (writes l) 0) f g refl refl role same
    ends console led cause)))

pub worker_by : {M : Type 0} {S : Type 0} {K : Type 0} (lf : M → Left) (left : S → Option (List ℕ)) (taken reads : S → ℕ) (held : K → Option (List ℕ)) (writes : K → ℕ)
    (membership : Membership) (node : ℕ) (f g : ℕ) (e d : ℕ × M) (o s : S) (q k : K) → membership.role ≡ Worker node → g ≡ f → e ≡ d → s ≡ o → k ≡ q → d.0 ≡ (lf d.1).status
    → IsWorker membership.localities membership.profile node (lf d.1)
    → HasJoined membership e.0 (Some (lf e.1)) (ports_of (left o) (taken o) (held q) (reads o) (writes q) f) (ports_of (left s) (taken s) (held k) (reads s) (writes k) g)
worker_by lf left taken reads held writes membership node f g e d o s q k role same end source sink status worker =
    subst (λ a. HasJoined membership a.0 (Some (lf a.1)) (ports_of (left o) (taken o) (held q) (reads o) (writes q) f) (ports_of (left s) (taken s) (held k) (reads s) (writes k) g)) (sym end)
    (subst (λ a. HasJoined membership d.0 (Some (lf d.1)) (ports_of (left o) (taken o) (held q) (reads o) (writes q) f) (ports_of (left a) (taken a) (held k) (reads a) (writes k) g)) (sym source)
    (subst (λ a. HasJoined membership d.0 (Some (lf d.1)) (ports_of (left o) (taken o) (held q) (reads o) (writes q) f) (ports_of (left o) (taken o) (held a) (reads o) (writes a) g)) (sym sink)
    (subst (λ n. HasJoined membership n (Some (lf d.1)) (ports_of (left o) (taken o) (held q) (reads o) (writes q) f) (ports_of (left o) (taken o) (held q) (reads o) (writes q) g)) (sym status)
    (worker_joined membership node (lf d.1) (ports_of (left o) (taken o) (held q) (reads o) (writes q) f) g role same worker))))
