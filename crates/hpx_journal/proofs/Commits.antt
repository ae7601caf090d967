-- What a Done leaves.
use Rattle.std.proofs.Common.{true, false, refl}
use Rattle.hpx_journal.specs.Entries.{Name, Done, Rules}
use Rattle.hpx_journal.specs.Local.{Local, after}
use Rattle.hpx_journal.specs.Rows.{Row}
use Rattle.hpx_journal.specs.Laws.{Commits, Fails}
use Rattle.hpx_journal.proofs.Done.{done_settles}

pub commits : (r : Rules) (s : Local) (a : Name) → Row r s (Done a false) → Commits r a s (after r s (Done a false))
unfolding after
commits r s a h = record {
  runs = h.0;
  made = h.1;
  objects = done_settles r s a h.0.act h.0.target h.0.fired h.0.stands;
  due = rw (h.0.fired, h.0.stands) refl;
  fired = refl;
  done = rw h.0.fired refl;
  waiting = refl;
  fresh = refl;
}

pub fails : (r : Rules) (s : Local) (a : Name) → Row r s (Done a true) → Fails a s (after r s (Done a true))
unfolding after
fails r s a h = record {
  runs = h.0;
  nothing_fresh = h.1;
  refused = h.2;
  objects = refl;
  due = rw h.0.fired refl;
  fired = refl;
  done = rw h.0.fired refl;
  waiting = refl;
  fresh = refl;
}
