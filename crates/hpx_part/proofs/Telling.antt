-- Tests of whether two actions are the same, or two objects.
use Rattle.std.proofs.Common.{ℕ, Bool, true, List, ◌≡◌, refl, sym, ap, ◌∙◌}
use Rattle.std.specs.Prelude.{◌&&◌}
use Rattle.hpx_value.specs.Values.{message_of, named}
use Rattle.hpx_journal.specs.Data.{Id, Value, Cont, State, Act, Message}
use Rattle.hpx_journal.specs.Entries.{same_name, name_of}
use Rattle.hpx_journal.proofs.Same.{and_true, same_name-true, same_name-refl}
use Rattle.hpx_journal.proofs.SameMessage.{same_nat, same_nat-true, same_nat-refl, same_list, same_list-true, same_list-refl, same_value, same_value-true, same_value-refl, same_cont, same_cont-true, same_cont-refl, same_id, same_id-true, same_id-refl, same_message, same_message-true, same_message-refl}
use Rattle.hpx_part.specs.Data.{Name, Standing, Travel}

pub record Telling (X : Type 0) : Type 0 where
  pub same : X → X → Bool
  pub sound : (a b : X) → same a b ≡ true → a ≡ b
  pub own : (a : X) → same a a ≡ true

-- what is made of two things is told by them
both : {X A B : Type 0} (f : X → A) (g : X → B) (make : A → B → X) → ((x : X) → make (f x) (g x) ≡ x) → Telling A → Telling B → Telling X
both f g make is one two = record {
  same = λ a b. one.same (f a) (f b) && two.same (g a) (g b);
  sound = λ a b h.
      let k = and_true _ _ h in
      sym (is a) ∙ (ap (λ z. make z (g a)) (one.sound (f a) (f b) k.0) ∙ (ap (make (f b)) (two.sound (g a) (g b) k.1) ∙ is b));
  own = λ a. rw (one.own (f a), two.own (g a)) refl;
}

tells_nat : Telling ℕ
tells_nat = record { same = same_nat; sound = same_nat-true; own = same_nat-refl }

tells_id : Telling Id
tells_id = record { same = same_id; sound = same_id-true; own = same_id-refl }

tells_list : {X : Type 0} → Telling X → Telling (List X)
tells_list t = record { same = same_list t.same; sound = same_list-true t.same t.sound; own = same_list-refl t.same t.own }

pub tells_act : Telling Act
tells_act = both name_of message_of (λ (n : Name) (m : Message). named n.origin n.serial m) (λ a. refl)
    (record { same = same_name; sound = same_name-true; own = same_name-refl })
    (record { same = same_message; sound = same_message-true; own = same_message-refl })

tells_state : Telling State
tells_state = both (λ (s : State). (s.drawn, s.values)) (λ (s : State). (s.conts, s.ids))
    (λ (a : ℕ × List Value) (b : List Cont × List Id). record { drawn = a.0; values = a.1; conts = b.0; ids = b.1 }) (λ s. refl)
    (pair tells_nat (tells_list (record { same = same_value; sound = same_value-true; own = same_value-refl })))
    (pair (tells_list (record { same = same_cont; sound = same_cont-true; own = same_cont-refl })) (tells_list tells_id))
  where
    pair : {A B : Type 0} → Telling A → Telling B → Telling (A × B)
    pair {A} {B} one two = both (λ (x : A × B). x.0) (λ (x : A × B). x.1) (λ (a : A) (b : B). (a, b)) (λ x. refl) one two

pub tells_standing : Telling Standing
tells_standing = both (λ (x : Standing). x.object) (λ (x : Standing). x.state)
    (λ (o : Id) (s : State). record { object = o; state = s }) (λ x. refl) tells_id tells_state

pub tells_travel : Telling Travel
tells_travel = both (λ (x : Travel). record { object = x.object; state = x.state }) (λ (x : Travel). x.to)
    (λ (x : Standing) (to : ℕ). record { object = x.object; state = x.state; to = to }) (λ x. refl) tells_standing tells_nat
