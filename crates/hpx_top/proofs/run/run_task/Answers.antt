use Rattle.std.proofs.Common.{Some, refl, ap, ◌≡◌}
use Rattle.hpx_top.specs.Computed.{task_line}
use Rattle.hpx_top.specs.declared.task.Task.TheVariants.{Console, Load}
use Rattle.hpx_top.proofs.ComputeLemmas.{line_short}
use Rattle.hpx_top.proofs.DoneLemmas.{computed_done, console_done, done_without, load_done, load_lines, none_done}
use Rattle.hpx_top.proofs.RunLemmas.{cause_none, cause_unread, no_status}
use Rattle.hpx_top.proofs.run.run_task.Goals as goal

pub compute_all-world-requires-clause-short : goal.compute_all-world-requires-clause-short
compute_all-world-requires-clause-short g c κs within =
    let is : task_line c.args.setup.now.task ≡ Some c.in-Ok-Answers.line = rw c.in-Ok-Answers.field-0-is at c.in-Ok-Answers.ensures.work in
    line_short c.args.setup.now.task c.in-Ok-Answers.line c.requires.setup.task is

pub returns-in-Ok-Serves-clause-did : goal.returns-in-Ok-Serves-clause-did
returns-in-Ok-Serves-clause-did g c =
    let is : c.args.setup.now.task ≡ Console c.in-Ok-Serves.console = rw c.in-Ok-Serves.field-0-is at c.in-Ok-Serves.ensures.work in
    console_done c.args.setup.now.task c.in-Ok-Serves.console c.args.setup.now.localities c.args.setup.now.profile _ _ c.serve_all.result.0 _ _ is c.requires.setup.some c.requires.setup.few c.serve_all.ensures.few c.serve_all.ensures.places c.serve_all.ensures.lawful c.serve_all.ensures.served

pub returns-in-Ok-Answers-clause-did : goal.returns-in-Ok-Answers-clause-did
returns-in-Ok-Answers-clause-did g c =
    let own : task_line c.args.setup.now.task ≡ Some c.in-Ok-Answers.line = rw c.in-Ok-Answers.field-0-is at c.in-Ok-Answers.ensures.work in
    done_without c.new.ensures.items
    (computed_done c.args.setup.now c.in-Ok-Answers.line c.compute_all-world.result.1 c.compute_all-world.result.0 _ _ c.requires.setup own c.compute_all-world.ensures.places
    c.compute_all-world.ensures.lawful c.compute_all-world.ensures.none (λ none. ap g.K.Sink.held (c.compute_all-world.ensures.untouched none).0) c.compute_all-world.ensures.answered
    c.compute_all-world.ensures.unanswered refl refl refl (no_status c.compute_all-world.result.1 2 refl c.compute_all-world.ensures.no_read.0)
    (no_status c.compute_all-world.result.1 9 refl c.compute_all-world.ensures.no_read.1))

pub returns-in-Ok-Answers-clause-cause : goal.returns-in-Ok-Answers-clause-cause
returns-in-Ok-Answers-clause-cause g c =
    cause_unread _ c.compute_all-world.result.0 _ _ _ _ _ _ _ _ _ (no_status c.compute_all-world.result.1 2 refl c.compute_all-world.ensures.no_read.0) (no_status c.compute_all-world.result.1 9 refl c.compute_all-world.ensures.no_read.1)
    c.compute_all-world.ensures.cause

pub returns-in-Err-clause-did : goal.returns-in-Err-clause-did
returns-in-Err-clause-did g c =
    done_without c.new-in-Err.ensures.items
    (none_done c.args.setup.now.task c.args.setup.now.localities c.args.setup.now.profile _ _ refl)

pub returns-in-Err-clause-cause : goal.returns-in-Err-clause-cause
returns-in-Err-clause-cause g c = cause_none _ _ refl

-- the session that is fed is that of the task
pub load_all-world-requires-clause-lines : goal.load_all-world-requires-clause-lines
load_all-world-requires-clause-lines g c κs within =
    let is : c.args.setup.now.task ≡ Load c.in-Ok-Loads.load = rw c.in-Ok-Loads.field-0-is at c.in-Ok-Loads.ensures.work in
    load_lines c.args.setup.now.task c.in-Ok-Loads.load is c.requires.setup.task

pub returns-in-Ok-Loads-clause-did : goal.returns-in-Ok-Loads-clause-did
returns-in-Ok-Loads-clause-did g c =
    let is : c.args.setup.now.task ≡ Load c.in-Ok-Loads.load = rw c.in-Ok-Loads.field-0-is at c.in-Ok-Loads.ensures.work in
    let did = c.load_all-world.ensures in
    let r = c.load_all-world.result.1 in
    done_without c.new-in-Ok-Loads.ensures.items
    (load_done c.args.setup.now c.in-Ok-Loads.load r c.load_all-world.result.0 _ _ c.requires.setup is (load_lines c.args.setup.now.task c.in-Ok-Loads.load is c.requires.setup.task)
    did.places did.lawful did.none (λ none. ap g.K.Sink.held (did.untouched none).0) did.fed did.loaded did.unloaded refl refl refl (no_status r 2 refl did.no_read.0) (no_status r 9 refl did.no_read.1))

pub returns-in-Ok-Loads-clause-cause : goal.returns-in-Ok-Loads-clause-cause
returns-in-Ok-Loads-clause-cause g c =
    let did = c.load_all-world.ensures in
    let r = c.load_all-world.result.1 in
    cause_unread _ c.load_all-world.result.0 _ _ _ _ _ _ _ _ _ (no_status r 2 refl did.no_read.0) (no_status r 9 refl did.no_read.1) did.cause
