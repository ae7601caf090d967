-- What the top call itself writes, as a text.
use Rattle.std.specs.Prelude.{ℕ, List, []}
use Rattle.hpx_journal.specs.declared.entry.Entry.{Entry}
use Rattle.hpx_own.specs.Texts.{refusal_text, audit_text, counted_text}
use Rattle.hpx_top.specs.declared.own.Own.{Own}
use Rattle.hpx_top.specs.declared.own.Own.TheVariants.{Nothing, Refusal, Value, Audit}

-- its text, where the journal has these entries
abbrev pub own_text : Own → List Entry → List ℕ
own_text Nothing es = []
own_text (Refusal refusal) es = refusal_text refusal
own_text (Value counter) es = counted_text counter es
own_text (Audit lines) es = audit_text lines
