-- Rows that change only the actions of a view.
use Rattle.std.proofs.Common.{ℕ, Bool, true, false, cond, List, [], ◌∷◌, ◌++◌, ◌≡◌, ◌+◌, ◌≤◌, Option, Some, IfSome, refl, sym, ap, ◌∙◌, subst, arith, inr, length}
use Rattle.std.specs.Prelude.{◌==◌}
use Rattle.std.specs.List.{list_any, find, count_by, sum_by}
use Rattle.std.proofs.lemmas.List.Sums.{sum_by-cons}
use Rattle.hpx_value.specs.Ids.{Id, same_object}
use Rattle.hpx_value.specs.Hands.{session}
use Rattle.hpx_value.specs.Values.{named}
use Rattle.hpx_journal.specs.Data.{Act, Message, Due, MessageDue, PrintDue}
use Rattle.hpx_part.specs.Keyed.{Agree}
use Rattle.hpx_journal.specs.Entries.{Rules, name_of, target_of, move_to, line_act}
use Rattle.std.specs.Option.{option_to_list}
use Rattle.hpx_journal.specs.Local.{after, is_act, is_standing, is_busy, acts_on, next_name, due_act, tail}
use Rattle.hpx_journal.specs.Foreign.{present}
use Rattle.hpx_journal.proofs.Same.{same_object-true}
use Rattle.hpx_journal.proofs.Bools.{false_from}
use Rattle.hpx_journal.proofs.Keys.{one_if}
use Rattle.hpx_part.specs.Data.{Name, Line, Fire, Sent, Print, Mail, Standing, Local}
use Rattle.hpx_part.specs.View.{View}
use Rattle.hpx_part.specs.Shows.{ShowsActs, IsOnce, Follows}
use Rattle.hpx_part.specs.Parts.{next_in}
use Rattle.hpx_part.proofs.Keys.{means, own}
use Rattle.hpx_part.proofs.Keyed.{Agree-idle}
use Rattle.hpx_part.proofs.Covered.{act_names, due_names}
use Rattle.hpx_part.proofs.Stay.{acts_stay, objects_stay, credit_stays, counts_stay}
use Rattle.hpx_part.proofs.Lists.{sum_middle, acts_put, acts_taken, acts_found, acts_once}

-- ---- the next name

pub next_is : (v : View) (s : Local) → ShowsActs v s → next_in v ≡ next_name s
next_is v s shown =
    ap (λ h. record { origin = h; serial = v.serial + 1 }) (sym shown.here)
    ∙ ap (λ n. record { origin = s.here; serial = n + 1 }) (sym shown.serial)

-- it is borne by nothing
pub next_new : (v : View) (s : Local) → IsOnce s → ShowsActs v s → count_by (is_act (next_in v)) s.waiting ≡ 0
next_new v s once shown =
    let none : present (next_in v) s ≡ 0 =
    subst (λ (n : Name). present n s ≡ 0) (sym (next_is v s shown)) (once.drawn (next_name s) refl (inr (omega arith))) in
    omega arith

-- no managed object is the session
pub not_session : (o : Id) → 16 ≤ o.kind → one_if (same_object o session) ≡ 0
not_session o managed =
    ap one_if (false_from (same_object o session) (λ t. let k : o.kind ≡ 1 = ap (λ y. y.kind) (same_object-true o session t) in absurd (omega arith)))

-- what is seen not to be busy is not busy
pub idle_of : (b : Bool) (o : Id) (xs ys : List Act) → Agree is_act xs ys → cond b false (list_any (acts_on o) ys) ≡ false
    → cond b false (list_any (acts_on o) xs) ≡ false
idle_of true o xs ys agree h = refl
idle_of false o xs ys agree h = Agree-idle is_act name_of means own (acts_on o) xs ys agree h

module _ (r : Rules) (v : View) where
  pub follows_line : (l m : List Act) (bytes : List ℕ) → v.due ≡ [] → v.fresh ≡ [] → v.here ≡ 0 → length bytes ≤ 1025 → v.waiting ≡ l ++ m
      → Follows r v (Line (next_in v) bytes)
      (record v { serial = v.serial + 1; waiting = l ++ line_act (next_in v) bytes ∷ m; last = Some (Line (next_in v) bytes) })
  unfolding after
  follows_line l m bytes due fresh zero short is = record {
    step = λ s once shown native. (
      record {
        here = refl;
        turn = (shown.acts.due ∙ due, shown.objects.fresh ∙ fresh);
        tokens = tt;
        bare = tt;
        row = (shown.acts.here ∙ zero, next_is v s shown.acts, short);
      },
      record {
        acts = record {
          here = shown.acts.here;
          serial = ap (λ n. n + 1) shown.acts.serial;
          waiting = acts_put s.waiting v.waiting l m (line_act (next_in v) bytes) shown.acts.waiting is (next_new v s once shown.acts);
          fired = shown.acts.fired;
          due = shown.acts.due;
        };
        objects = objects_stay v _ s _ refl refl refl shown.objects;
        credit = credit_stays v _ s _ refl refl refl refl shown.credit;
        counts = counts_stay v _ s _ refl refl shown.counts;
        last = refl;
      },
    );
    form = record { bare = tt; birth = tt; to = tt };
    here = refl;
    covered = λ covered o managed. record {
      named = omega (
        arith,
        (covered o managed).named,
        not_session o managed,
        ap (sum_by (act_names o)) is,
        sum_middle (act_names o) l (line_act (next_in v) bytes) m,
      );
      pending = (covered o managed).pending;
    };
  }

  pub follows_fire : (l m fl fm : List Act) (act : Act) (x : Standing) → v.due ≡ [] → v.fresh ≡ [] → v.waiting ≡ l ++ act ∷ m
      → v.fired ≡ fl ++ fm → find (is_standing (target_of act)) v.objects ≡ Some x → is_busy (target_of act) v.fired ≡ false
      → IfSome (move_to act) (λ t. t ≡ v.here)
      → Follows r v (Fire (name_of act))
      (record v { waiting = l ++ m; fired = fl ++ act ∷ fm; last = Some (Fire (name_of act)) })
  unfolding after
  follows_fire l m fl fm act x due fresh waits fires stands idle moves = record {
    step = λ s once shown native.
        let found = acts_found s.waiting v.waiting l m act shown.acts.waiting waits in
        let none : count_by (is_act (name_of act)) s.fired ≡ 0 =
        omega (arith, once.acts (name_of act), acts_once s.waiting v.waiting l m act shown.acts.waiting waits) in (
          record {
            here = refl;
            turn = (shown.acts.due ∙ due, shown.objects.fresh ∙ fresh);
            tokens = tt;
            bare = tt;
            row = (
              act,
              x,
              found,
              shown.objects.objects.finds (target_of act) ∙ stands,
              idle_of ((target_of act).kind == 7) (target_of act) s.fired v.fired shown.acts.fired idle,
              moves_here (move_to act) v.here s.here shown.acts.here moves,
            );
          },
          record {
            acts = record {
              here = shown.acts.here;
              serial = shown.acts.serial;
              waiting = acts_taken s.waiting v.waiting l m act shown.acts.waiting waits;
              fired = subst (λ o. Agree is_act (option_to_list o ++ s.fired) (fl ++ act ∷ fm)) (sym found)
                  (acts_put s.fired v.fired fl fm act shown.acts.fired fires none);
              due = shown.acts.due;
            };
            objects = objects_stay v _ s _ refl refl refl shown.objects;
            credit = credit_stays v _ s _ refl refl refl refl shown.credit;
            counts = counts_stay v _ s _ refl refl shown.counts;
            last = refl;
          },
        );
    form = record { bare = tt; birth = tt; to = tt };
    here = refl;
    covered = λ covered o managed. record {
      named = omega (
        arith,
        (covered o managed).named,
        ap (sum_by (act_names o)) waits,
        ap (sum_by (act_names o)) fires,
        sum_middle (act_names o) l act m,
        sum_middle (act_names o) fl act fm,
      );
      pending = (covered o managed).pending;
    };
  }
    where
      moves_here : (to : Option ℕ) (here there : ℕ) → there ≡ here → IfSome to (λ t. t ≡ here) → IfSome to (λ t. t ≡ there)
      moves_here to here there e h = subst (λ k. IfSome to (λ t. t ≡ k)) (sym e) h

  pub follows_sent : (message : Message) (rest : List Due) (l m : List Act) → v.fresh ≡ [] → v.due ≡ MessageDue message ∷ rest → v.waiting ≡ l ++ m
      → Follows r v (Sent (next_in v))
      (record v { serial = v.serial + 1; waiting = l ++ named v.here (v.serial + 1) message ∷ m; due = rest; last = Some (Sent (next_in v)) })
  unfolding after
  follows_sent message rest l m fresh due is = record {
    step = λ s once shown native.
        let left : s.due ≡ MessageDue message ∷ rest = shown.acts.due ∙ due in
        let comes : due_act (next_in v) s.due ≡ named v.here (v.serial + 1) message ∷ [] = ap (due_act (next_in v)) left in (
          record {
            here = refl;
            turn = shown.objects.fresh ∙ fresh;
            tokens = tt;
            bare = tt;
            row = (message, rest, left, next_is v s shown.acts);
          },
          record {
            acts = record {
              here = shown.acts.here;
              serial = ap (λ n. n + 1) shown.acts.serial;
              waiting = subst (λ (xs : List Act). Agree is_act (xs ++ s.waiting) (l ++ named v.here (v.serial + 1) message ∷ m)) (sym comes)
                  (acts_put s.waiting v.waiting l m (named v.here (v.serial + 1) message) shown.acts.waiting is (next_new v s once shown.acts));
              fired = shown.acts.fired;
              due = ap tail left;
            };
            objects = objects_stay v _ s _ refl refl refl shown.objects;
            credit = credit_stays v _ s _ refl refl refl refl shown.credit;
            counts = counts_stay v _ s _ refl refl shown.counts;
            last = refl;
          },
        );
    form = record { bare = tt; birth = tt; to = tt };
    here = refl;
    covered = λ covered o managed. record {
      named = omega (
        arith,
        (covered o managed).named,
        ap (sum_by (act_names o)) is,
        sum_middle (act_names o) l (named v.here (v.serial + 1) message) m,
        ap (sum_by (due_names o)) due,
        sum_by-cons (due_names o) (MessageDue message) rest,
      );
      pending = (covered o managed).pending;
    };
  }

  pub follows_print : (bytes : List ℕ) (rest : List Due) → v.fresh ≡ [] → v.due ≡ PrintDue bytes ∷ rest
      → Follows r v (Print bytes) (record v { due = rest; last = Some (Print bytes) })
  unfolding after
  follows_print bytes rest fresh due = record {
    step = λ s once shown native.
        let left : s.due ≡ PrintDue bytes ∷ rest = shown.acts.due ∙ due in (
          record {
            here = refl;
            turn = shown.objects.fresh ∙ fresh;
            tokens = tt;
            bare = tt;
            row = (rest, left);
          },
          record {
            acts = record {
              here = shown.acts.here;
              serial = shown.acts.serial;
              waiting = shown.acts.waiting;
              fired = shown.acts.fired;
              due = ap tail left;
            };
            objects = objects_stay v _ s _ refl refl refl shown.objects;
            credit = credit_stays v _ s _ refl refl refl refl shown.credit;
            counts = counts_stay v _ s _ refl refl shown.counts;
            last = refl;
          },
        );
    form = record { bare = tt; birth = tt; to = tt };
    here = refl;
    covered = λ covered o managed. record {
      named = omega (
        arith,
        (covered o managed).named,
        ap (sum_by (due_names o)) due,
        sum_by-cons (due_names o) (PrintDue bytes) rest,
      );
      pending = (covered o managed).pending;
    };
  }

  pub follows_mail : (kind : ℕ) → v.due ≡ [] → v.fresh ≡ [] → 1 ≤ kind → kind ≤ 10
      → Follows r v (Mail kind) (record v { last = Some (Mail kind) })
  unfolding after
  follows_mail kind due fresh low high = record {
    step = λ s once shown native. (
      record {
        here = refl;
        turn = (shown.acts.due ∙ due, shown.objects.fresh ∙ fresh);
        tokens = tt;
        bare = tt;
        row = (low, high);
      },
      record {
        acts = acts_stay v _ s _ refl refl shown.acts;
        objects = objects_stay v _ s _ refl refl refl shown.objects;
        credit = credit_stays v _ s _ refl refl refl refl shown.credit;
        counts = counts_stay v _ s _ refl refl shown.counts;
        last = refl;
      },
    );
    form = record { bare = tt; birth = tt; to = tt };
    here = refl;
    covered = λ covered o managed. record { named = (covered o managed).named; pending = (covered o managed).pending };
  }
