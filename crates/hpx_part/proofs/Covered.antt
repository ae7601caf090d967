-- A covered view shows only what is backed.
use Rattle.std.proofs.Common.{ℕ, cond, ap, arith}
use Rattle.std.specs.List.{sum_by, count_by}
use Rattle.hpx_value.specs.Ids.{Id, same_object}
use Rattle.hpx_journal.specs.Data.{Act, Due}
use Rattle.hpx_journal.specs.Entries.{name_of}
use Rattle.hpx_journal.specs.Tokens.{is_held, is_owed}
use Rattle.hpx_journal.specs.Local.{is_act, is_standing, is_travel}
use Rattle.hpx_journal.specs.Names.{IsBacked, due_ids}
use Rattle.hpx_journal.proofs.Same.{held-Counts, owed-Counts}
use Rattle.hpx_part.specs.Data.{Standing, Travel, Token, Local}
use Rattle.hpx_part.specs.View.{View, IsCovered}
use Rattle.hpx_part.specs.Shows.{Shows}
use Rattle.hpx_part.proofs.Keys.{means, own, stood, means_object, own_object, travels, means_travel, own_travel}
use Rattle.hpx_part.proofs.Keyed.{Agree-sum}

abbrev pub held_counts : Id → Token → ℕ
held_counts o t = cond (is_held o t) 1 0

abbrev pub owed_counts : Id → Token → ℕ
owed_counts o t = cond (is_owed o t) 1 0

-- how often o is named in an action, in a state, and in what is due
abbrev pub act_names : Id → Act → ℕ
act_names o act = count_by (same_object o) act.ids

abbrev pub object_names : Id → Standing → ℕ
object_names o x = count_by (same_object o) x.state.ids

abbrev pub travel_names : Id → Travel → ℕ
travel_names o x = count_by (same_object o) x.state.ids

abbrev pub due_names : Id → Due → ℕ
due_names o x = count_by (same_object o) (due_ids x)

pub backed : (v : View) (s : Local) → Shows v s → IsCovered v → IsBacked s
backed v s shown covered o managed = record {
  named = omega (
    arith,
    (covered o managed).named,
    Agree-sum is_standing stood means_object own_object (object_names o) s.objects v.objects shown.objects.objects,
    Agree-sum is_act name_of means own (act_names o) s.waiting v.waiting shown.acts.waiting,
    Agree-sum is_act name_of means own (act_names o) s.fired v.fired shown.acts.fired,
    ap (sum_by (due_names o)) shown.acts.due,
    Agree-sum is_travel travels means_travel own_travel (travel_names o) s.travels v.travels shown.objects.travels,
    shown.credit.asking o,
    shown.credit.tokens (held_counts o) (held-Counts o),
  );
  pending = omega (
    arith,
    (covered o managed).pending,
    shown.credit.asks o,
    shown.credit.tokens (owed_counts o) (owed-Counts o),
  );
}
