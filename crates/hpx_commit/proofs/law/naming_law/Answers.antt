use Rattle.hpx_commit.proofs.Naming.{names_match, places_within}
use Rattle.hpx_commit.proofs.law.naming_law.Goals as goal

pub returns-clause-names : goal.returns-clause-names
returns-clause-names c = λ n kind here s a made out state action laws. names_match s a made state action n out laws.names.conts laws.roots

pub returns-clause-within : goal.returns-clause-within
returns-clause-within c = λ n kind here s a made out laws same. places_within s a made out same laws.names.places
