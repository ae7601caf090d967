use Rattle.std.proofs.Common.{ℕ, ◌≡◌, ◌⊎◌, ◌<◌, length, refl, sym, subst, inl, inr, arith}
use Rattle.hpx_parcel.specs.declared.parcel.Why.{Why}
use Rattle.hpx_journal.specs.Data.{Id}
use Rattle.hpx_node.specs.Handled.{Takes, NotTaken}
use Rattle.hpx_node.specs.declared.parts.TakeFault.{TakeFault}
use Rattle.hpx_node.specs.declared.parts.TakeFault.TheVariants.{BadFrame, Strange, OutOfMemory}
use Rattle.hpx_node.proofs.Turns.{turn_within}
use Rattle.hpx_node.specs.Locality.{tables_of}
use Rattle.hpx_world.specs.Turns.{IsStrangeFrame}
use Rattle.hpx_world.proofs.Calls.{done_at, same_at, running_at, there_at, spare_inside, stands_at, sound_wrote, sound_inside}
use Rattle.hpx_world.proofs.Tabled.{tables_long}
use Rattle.hpx_world.proofs.locals.Locals.accept.Goals as goal

-- a fault is for want of memory, or of the bytes, or of a rule
take_cases : (f : TakeFault) → (f ≡ OutOfMemory) ⊎ (((at : ℕ) × (why : Why) × (f ≡ BadFrame at why))
    ⊎ ((rule : ℕ) × (object : Id) × (kept : ℕ) × (f ≡ Strange rule object kept)))
take_cases OutOfMemory = inl refl
take_cases (BadFrame at why) = inr (inl (at, why, refl))
take_cases (Strange rule object kept) = inr (inr (rule, object, kept, refl))

pub take-requires-clause-stands : goal.take-requires-clause-stands
take-requires-clause-stands g c =
    let lt : c.args.frame.now.0 < length (tables_of c.args.self.now.nodes.items) = omega (arith, c.if-frame-n.false, c.len-n.ensures, tables_long c.args.self.now.nodes.items) in
    stands_at _ _ _ _ c.requires.sound c.args.frame.now.0 c.index_mut.result.now c.index_mut.result.now lt c.index_mut.ensures.value

pub returns-in-Ok-clause-sound : goal.returns-in-Ok-clause-sound
returns-in-Ok-clause-sound g c =
    let lt : c.args.frame.now.0 < length (tables_of c.args.self.now.nodes.items) = omega (arith, c.if-frame-n.false, c.len-n.ensures, tables_long c.args.self.now.nodes.items) in
    sound_wrote _ _ _ _ c.requires.sound c.args.frame.now.0 c.index_mut.result.now c.take.new.self lt c.index_mut.ensures.value _ _
    c.in-Ok.ensures.ok.writes c.take.ensures.stands (turn_within _ _ c.requires.room c.take.ensures.turn)

pub returns-in-Ok-clause-ok : goal.returns-in-Ok-clause-ok
returns-in-Ok-clause-ok g c =
    let lt : c.args.frame.now.0 < length (tables_of c.args.self.now.nodes.items) = omega (arith, c.if-frame-n.false, c.len-n.ensures, tables_long c.args.self.now.nodes.items) in
    done_at _ c.args.frame.now.0 c.index_mut.result.now c.take.new.self lt c.index_mut.ensures.value (λ t t'. Takes c.args.frame.now.1 t t' c.args.self.now.journal.entries c.take.new.book.entries) c.in-Ok.ensures.ok

pub returns-in-Ok-clause-jobs : goal.returns-in-Ok-clause-jobs
returns-in-Ok-clause-jobs g c =
    let lt : c.args.frame.now.0 < length (tables_of c.args.self.now.nodes.items) = omega (arith, c.if-frame-n.false, c.len-n.ensures, tables_long c.args.self.now.nodes.items) in
    running_at _ c.args.frame.now.0 c.index_mut.result.now c.take.new.self lt c.index_mut.ensures.value c.take.ensures.running

pub returns-in-Err-clause-sound : goal.returns-in-Err-clause-sound
returns-in-Err-clause-sound g c =
    let lt : c.args.frame.now.0 < length (tables_of c.args.self.now.nodes.items) = omega (arith, c.if-frame-n.false, c.len-n.ensures, tables_long c.args.self.now.nodes.items) in
    sound_inside _ _ _ _ c.requires.sound c.args.frame.now.0 c.index_mut.result.now c.take.new.self lt c.index_mut.ensures.value _
    (spare_inside _ _ c.args.self.now.journal c.take.new.book c.in-Err.ensures.err) c.take.ensures.stands (turn_within _ _ c.requires.room c.take.ensures.turn)

pub returns-in-Err-clause-jobs : goal.returns-in-Err-clause-jobs
returns-in-Err-clause-jobs g c =
    let lt : c.args.frame.now.0 < length (tables_of c.args.self.now.nodes.items) = omega (arith, c.if-frame-n.false, c.len-n.ensures, tables_long c.args.self.now.nodes.items) in
    running_at _ c.args.frame.now.0 c.index_mut.result.now c.take.new.self lt c.index_mut.ensures.value c.take.ensures.running

pub returns-in-Err-clause-err : goal.returns-in-Err-clause-err
returns-in-Err-clause-err g c =
    let lt : c.args.frame.now.0 < length (tables_of c.args.self.now.nodes.items) = omega (arith, c.if-frame-n.false, c.len-n.ensures, tables_long c.args.self.now.nodes.items) in
    same_at _ c.args.frame.now.0 c.index_mut.result.now c.take.new.self lt c.index_mut.ensures.value _ _ c.in-Err.ensures.err

pub returns-in-Err-clause-strange : goal.returns-in-Err-clause-strange
returns-in-Err-clause-strange g c = λ to rule object kept is. elim (take_cases c.in-Err.fault) [
  | inl e ↦ absurd (let m = c.refusal-in-Err.ensures.memory e in cc)
  | inr y ↦ elim y [
    | inl x ↦ absurd (let b = c.refusal-in-Err.ensures.bad x.0 x.1 x.2 in cc)
    | inr x ↦
        let s = c.refusal-in-Err.ensures.strange x.0 x.1 x.2 x.3 in
        let f = x.3 in
        let same : c.in-Err.fault ≡ Strange rule object kept = cc in
        let place : to ≡ c.args.frame.now.0 = cc in
        let why = subst (NotTaken c.index_mut.result.now.tables c.args.frame.now.1) same c.in-Err.ensures.cause in
        let lt : c.args.frame.now.0 < length (tables_of c.args.self.now.nodes.items) = omega (arith, c.if-frame-n.false, c.len-n.ensures, tables_long c.args.self.now.nodes.items) in (
          place,
          subst (λ j. IsStrangeFrame (tables_of c.args.self.now.nodes.items) j c.args.frame.now.1 rule object kept) (sym place)
              (inl (c.index_mut.result.now.tables, there_at _ c.args.frame.now.0 c.index_mut.result.now c.index_mut.result.now lt c.index_mut.ensures.value, why)),
        )
  ]
]

pub returns-in-Err-clause-memory : goal.returns-in-Err-clause-memory
returns-in-Err-clause-memory g c = λ u is. elim (take_cases c.in-Err.fault) [
  | inl e ↦
      let lt : c.args.frame.now.0 < length (tables_of c.args.self.now.nodes.items) = omega (arith, c.if-frame-n.false, c.len-n.ensures, tables_long c.args.self.now.nodes.items) in (
        c.index_mut.result.now.tables,
        there_at _ c.args.frame.now.0 c.index_mut.result.now c.index_mut.result.now lt c.index_mut.ensures.value,
        subst (NotTaken c.index_mut.result.now.tables c.args.frame.now.1) e c.in-Err.ensures.cause,
      )
  | inr y ↦ elim y [
    | inl x ↦ absurd (let b = c.refusal-in-Err.ensures.bad x.0 x.1 x.2 in cc)
    | inr x ↦ absurd (let s = c.refusal-in-Err.ensures.strange x.0 x.1 x.2 x.3 in cc)
  ]
]
