-- A job is well formed with its plain action too, and an action that fails leaves what its plain action leaves.
use Rattle.std.specs.Option.{option_to_list}
use Rattle.hpx_node.proofs.Common.{Act, AllByRecursion, Fault, HasRightCredit, Id, IfSome, IsFitJob, IsMovable, IsPlace, Job, Message, MessageDue, None, Option, PrintDue, Some, [], answer, ap, arith, bare, bare_act, codes, cond, due_failed, id_at, length-map, map, message_of, plain, plain_all, plain_bare, plain_code, plain_formed, plain_other, plain_own, plain_target, rider_all, rider_of, seen, subst, sym, ◌++◌, ◌==◌, ◌∙◌, ◌∷◌, ◌≡◌}
use Rattle.hpx_value.specs.Shapes.{IsAct}
use Rattle.hpx_value.specs.Hands.{own_slot}
use Rattle.hpx_journal.specs.Local.{failure}

pub fit_seen : (job : Job) → IsFitJob job → IsFitJob (seen job)
fit_seen job h = record {
  action = record {
    sent = record { shape = plain_formed job.action h.action.sent.shape; credit = plain_all HasRightCredit job.action h.action.sent.credit };
    moves = λ e.
        let one : job.action.code ≡ 1 = sym (plain_code job.action) ∙ e in
        subst (λ (m : Message). IsMovable m.ids × IsPlace m.args) (sym (plain_other (message_of job.action) (λ three. absurd (omega (arith, one, three))))) (h.action.moves one);
  };
  state = h.state;
  credit = h.credit;
}

bare_formed : (a : Act) → IsAct a → IsAct (bare_act a)
bare_formed a h = record { values = h.values; refs = h.refs; few_refs = h.few_refs; cont = h.cont; ids = length-map a.ids bare ∙ h.ids; short = h.short }

pub failure_plain : (a : Act) → IsAct a → due_failed (map bare (plain a).ids) (plain a).cont ≡ failure (bare_act a)
failure_plain a h =
    ap (λ (b : Act). due_failed b.ids b.cont) (sym (plain_bare a))
    ∙ (ap (λ xs. map (λ x. MessageDue (answer [] x (Fault 5))) xs ++ cond ((id_at (plain (bare_act a)).ids 0).kind == 1) (PrintDue (codes "error: credit limit\n") ∷ []) []) (plain_own (bare_act a) (bare_formed a h))
    ∙ ap (λ (o : Id). map (λ x. MessageDue (answer [] x (Fault 5))) (own_slot (map bare a.ids) a.cont) ++ cond (o.kind == 1) (PrintDue (codes "error: credit limit\n") ∷ []) []) (plain_target (bare_act a)))

-- a rider has its right credit
pub rider_right : (o : Option Id) (a : Act) → option_to_list o ≡ rider_of a → IsAct a → AllByRecursion HasRightCredit a.ids → IfSome o HasRightCredit
rider_right o a same shape credit = each o (subst (AllByRecursion HasRightCredit) (sym same) (rider_all HasRightCredit a shape credit))
  where
    each : (o : Option Id) → AllByRecursion HasRightCredit (option_to_list o) → IfSome o HasRightCredit
    each None h = tt
    each (Some id) h = h.0
