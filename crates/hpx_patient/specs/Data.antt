-- The types of the journal's code, by one name each.
pub use Rattle.hpx_journal.specs.declared.entry.Name.{Name}
pub use Rattle.hpx_journal.specs.declared.entry.Event.{Event}
pub use Rattle.hpx_journal.specs.declared.entry.Event.TheVariants.{Line, Fire, Split, Born, Done, Sent, Print, Merge, Up, Asked, Given, Count, Freed, Left, Landed, Looked, Mail, Out, In}
pub use Rattle.hpx_journal.specs.declared.entry.Entry.{Entry}
pub use Rattle.hpx_journal.specs.declared.entry.Standing.{Standing}
pub use Rattle.hpx_journal.specs.declared.entry.Travel.{Travel}
pub use Rattle.hpx_journal.specs.declared.local.Local.{Local}
