use Rattle.hpx_tables.proofs.Found.{place_found, place_first, place_none}
use Rattle.hpx_tables.proofs.objects.Objects.place.Goals as goal

pub returns-clause-found : goal.returns-clause-found
returns-clause-found c =
    rw (← c.self.view_is) (place_found c.key_of.result c.args.o c.key_of.ensures c.self.inside.items.entries c.self.invariant.0 c.get_index_of.result c.get_index_of.ensures.value)

pub returns-clause-first : goal.returns-clause-first
returns-clause-first c =
    rw (← c.self.view_is) (place_first c.key_of.result c.args.o c.key_of.ensures c.self.inside.items.entries c.self.invariant.0 c.get_index_of.result c.get_index_of.ensures.index)

pub returns-clause-none : goal.returns-clause-none
returns-clause-none c =
    rw (← c.self.view_is) (place_none c.key_of.result c.args.o c.key_of.ensures c.self.inside.items.entries c.self.invariant.0 c.get_index_of.result c.get_index_of.ensures.found)
