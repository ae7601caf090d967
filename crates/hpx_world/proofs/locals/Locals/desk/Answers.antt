use Rattle.std.proofs.Common.{ℕ, ◌≡◌, Ok, ap, refl, subst, inl, inr, ◌⊎◌}
use Rattle.hpx_journal.specs.Data.{Id}
use Rattle.hpx_node.specs.Handled.{Tends, NotTended}
use Rattle.hpx_node.specs.declared.parts.DeskFault.{DeskFault}
use Rattle.hpx_node.specs.declared.parts.DeskFault.TheVariants.{Strange, OutOfMemory}
use Rattle.hpx_node.proofs.Turns.{turn_within}
use Rattle.hpx_node.specs.Handled.{HasNothingToTend}
use Rattle.hpx_world.proofs.Calls.{done_at, same_at, at_own, there_at, running_at, desk_inside, stands_at, sound_inside, inside_at}
use Rattle.hpx_world.proofs.locals.Locals.desk.Goals as goal

pub desk-requires-clause-stands : goal.desk-requires-clause-stands
desk-requires-clause-stands g c =
    stands_at _ _ _ _ c.requires.sound c.args.k c.index_mut.result.now c.index_mut.result.now c.requires.range c.index_mut.ensures.value

pub returns-in-Ok-true-clause-sound : goal.returns-in-Ok-true-clause-sound
returns-in-Ok-true-clause-sound g c =
    sound_inside _ _ _ _ c.requires.sound c.args.k c.index_mut.result.now c.desk.new.self c.requires.range c.index_mut.ensures.value _
    (desk_inside c.index_mut.result.now c.desk.new.self c.args.self.now.journal c.desk.new.book _ c.desk.result c.desk.ensures.tends c.desk.ensures.none c.desk.ensures.err)
    c.desk.ensures.stands (turn_within _ _ c.requires.room c.desk.ensures.turn)

pub returns-in-Ok-true-clause-inside : goal.returns-in-Ok-true-clause-inside
returns-in-Ok-true-clause-inside g c =
    inside_at _ _ _ _ c.requires.sound c.args.k c.index_mut.result.now c.desk.new.self c.requires.range c.index_mut.ensures.value _
    (desk_inside c.index_mut.result.now c.desk.new.self c.args.self.now.journal c.desk.new.book _ c.desk.result c.desk.ensures.tends c.desk.ensures.none c.desk.ensures.err)

pub returns-in-Ok-true-clause-jobs : goal.returns-in-Ok-true-clause-jobs
returns-in-Ok-true-clause-jobs g c =
    running_at _ c.args.k c.index_mut.result.now c.desk.new.self c.requires.range c.index_mut.ensures.value c.desk.ensures.running

pub returns-in-Ok-false-clause-sound : goal.returns-in-Ok-false-clause-sound
returns-in-Ok-false-clause-sound g c =
    sound_inside _ _ _ _ c.requires.sound c.args.k c.index_mut.result.now c.desk.new.self c.requires.range c.index_mut.ensures.value _
    (desk_inside c.index_mut.result.now c.desk.new.self c.args.self.now.journal c.desk.new.book _ c.desk.result c.desk.ensures.tends c.desk.ensures.none c.desk.ensures.err)
    c.desk.ensures.stands (turn_within _ _ c.requires.room c.desk.ensures.turn)

pub returns-in-Ok-false-clause-inside : goal.returns-in-Ok-false-clause-inside
returns-in-Ok-false-clause-inside g c =
    inside_at _ _ _ _ c.requires.sound c.args.k c.index_mut.result.now c.desk.new.self c.requires.range c.index_mut.ensures.value _
    (desk_inside c.index_mut.result.now c.desk.new.self c.args.self.now.journal c.desk.new.book _ c.desk.result c.desk.ensures.tends c.desk.ensures.none c.desk.ensures.err)

pub returns-in-Ok-false-clause-jobs : goal.returns-in-Ok-false-clause-jobs
returns-in-Ok-false-clause-jobs g c =
    running_at _ c.args.k c.index_mut.result.now c.desk.new.self c.requires.range c.index_mut.ensures.value c.desk.ensures.running

pub returns-in-Err-clause-sound : goal.returns-in-Err-clause-sound
returns-in-Err-clause-sound g c =
    sound_inside _ _ _ _ c.requires.sound c.args.k c.index_mut.result.now c.desk.new.self c.requires.range c.index_mut.ensures.value _
    (desk_inside c.index_mut.result.now c.desk.new.self c.args.self.now.journal c.desk.new.book _ c.desk.result c.desk.ensures.tends c.desk.ensures.none c.desk.ensures.err)
    c.desk.ensures.stands (turn_within _ _ c.requires.room c.desk.ensures.turn)

pub returns-in-Err-clause-inside : goal.returns-in-Err-clause-inside
returns-in-Err-clause-inside g c =
    inside_at _ _ _ _ c.requires.sound c.args.k c.index_mut.result.now c.desk.new.self c.requires.range c.index_mut.ensures.value _
    (desk_inside c.index_mut.result.now c.desk.new.self c.args.self.now.journal c.desk.new.book _ c.desk.result c.desk.ensures.tends c.desk.ensures.none c.desk.ensures.err)

pub returns-in-Err-clause-jobs : goal.returns-in-Err-clause-jobs
returns-in-Err-clause-jobs g c =
    running_at _ c.args.k c.index_mut.result.now c.desk.new.self c.requires.range c.index_mut.ensures.value c.desk.ensures.running

pub returns-in-Ok-false-clause-did : goal.returns-in-Ok-false-clause-did
returns-in-Ok-false-clause-did g c =
    let none = c.in-Ok-false.ensures.none (ap (λ b. Ok b) c.in-Ok-false.field-0-test) in
    (same_at _ c.args.k c.index_mut.result.now c.desk.new.self c.requires.range c.index_mut.ensures.value _ _ none.1, at_own _ c.args.k c.index_mut.result.now c.desk.new.self c.requires.range c.index_mut.ensures.value HasNothingToTend none.0)

pub returns-in-Err-clause-err : goal.returns-in-Err-clause-err
returns-in-Err-clause-err g c = same_at _ c.args.k c.index_mut.result.now c.desk.new.self c.requires.range c.index_mut.ensures.value _ _ c.in-Err.ensures.err

-- a fault has a rule, or is for want of memory
mail_cases : (f : DeskFault) → (f ≡ OutOfMemory) ⊎ ((rule : ℕ) × (object : Id) × (kept : ℕ) × (f ≡ Strange rule object kept))
mail_cases OutOfMemory = inl refl
mail_cases (Strange rule object kept) = inr (rule, object, kept, refl)

pub returns-in-Err-clause-strange : goal.returns-in-Err-clause-strange
returns-in-Err-clause-strange g c = λ to rule object kept is. elim (mail_cases c.in-Err.fault) [
  | inl e ↦ absurd (let m = c.mail_refusal.ensures.memory e in cc)
  | inr x ↦
      let s = c.mail_refusal.ensures.strange x.0 x.1 x.2 x.3 in
      let f = x.3 in
      let same : c.in-Err.fault ≡ Strange rule object kept = cc in (
        cc,
        (
          c.index_mut.result.now.tables,
          there_at _ c.args.k c.index_mut.result.now c.index_mut.result.now c.requires.range c.index_mut.ensures.value,
          subst (NotTended c.index_mut.result.now.tables) same c.in-Err.ensures.cause,
        ),
      )
]

pub returns-in-Ok-true-clause-did : goal.returns-in-Ok-true-clause-did
returns-in-Ok-true-clause-did g c =
    done_at _ c.args.k c.index_mut.result.now c.desk.new.self c.requires.range c.index_mut.ensures.value (λ t t'. Tends t t' _ _)
    (c.in-Ok-true.ensures.tends (ap (λ b. Ok b) c.in-Ok-true.field-0-test))

pub returns-in-Err-clause-right : goal.returns-in-Err-clause-right
returns-in-Err-clause-right g c = λ u is. elim (mail_cases c.in-Err.fault) [
  | inl e ↦ (
    c.index_mut.result.now.tables,
    there_at _ c.args.k c.index_mut.result.now c.index_mut.result.now c.requires.range c.index_mut.ensures.value,
    subst (NotTended c.index_mut.result.now.tables) e c.in-Err.ensures.cause,
  )
  | inr x ↦ absurd (let s = c.mail_refusal.ensures.strange x.0 x.1 x.2 x.3 in cc)
]
