use Rattle.hpx_part.proofs.ObjectRows.{follows_freed_mailed, follows_freed_taken}
use Rattle.hpx_part.proofs.law.freed_law.Goals as goal

pub returns-clause-mailed : goal.returns-clause-mailed
returns-clause-mailed c = λ r v o x l m due fresh managed bare is same waiting fired last home dead.
    follows_freed_mailed r v o x l m due fresh managed bare is same waiting fired last home dead

pub returns-clause-taken : goal.returns-clause-taken
returns-clause-taken c = λ r v o x l m bytes due fresh managed bare is same waiting fired last spelled.
    follows_freed_taken r v o x l m due fresh managed bare is same waiting fired bytes last spelled
