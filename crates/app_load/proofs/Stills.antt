-- A plain space in which nobody waits: what calls leave of it.
use Rattle.std.specs.Prelude.{ℕ, pos, true, List, [], ◌∷◌, ◌++◌, ◌≡◌, ◌+◌, ◌-◌, Option, Some, length, codes, refl}
use Rattle.std.proofs.Common.{ap, ◌∙◌, sym, subst, arith}
use Rattle.std.proofs.lemmas.Bool.{cond_both}
use Rattle.hpx_calls.specs.Values.{plain, Text, Ref}
use Rattle.hpx_calls.specs.Requests.{request_of}
use Rattle.hpx_calls.specs.declared.request.Request.TheVariants.{New}
use Rattle.hpx_calls.specs.declared.content.Content.{Content}
use Rattle.hpx_calls.specs.declared.content.Content.TheVariants.{Maker, Number}
use Rattle.hpx_calls.specs.declared.effect.Effect.{Effect}
use Rattle.hpx_calls.specs.declared.effect.Effect.TheVariants.{Answers, Moves, Makes}
use Rattle.hpx_calls.specs.declared.effect.Called.{Called}
use Rattle.hpx_calls.specs.Tables.{on_content}
use Rattle.hpx_calls.specs.Histories.{Call, next, still, tells, called_on}
use Rattle.app_console.specs.declared.desk.What.{What}
use Rattle.app_console.specs.declared.desk.What.TheVariants.{Silent as NotSaid, Binds as Bound}
use Rattle.app_console.specs.Desks.{without}
use Rattle.app_console.specs.Plain.{Who, RootOf, Thing, Datum, Item, Plain, same_who, set_item, with_made, setting, call_by, call_end, at_call, names_told, count_told}
use Rattle.app_console.proofs.Fit.{same_who-true}
use Rattle.app_load.proofs.Calm.{is_calm, is_maker, is_mild, IsQuiet, StaysCalm, object_calm}

-- at each object nobody waits, and the components of a locality are where objects are made
pub record IsStill (items : Who → Item) : Type 0 where
  pub calm : (u : Who) → is_calm (items u).held.content ≡ true
  pub alone : (u : Who) → (items u).held.waiting ≡ []
  pub makers : (at : ℕ) → is_maker (items (RootOf 3 at)).held.content ≡ true

-- one object is another then
set_still : (items : Who → Item) (who : Who) (new : Item) → IsStill items → is_calm new.held.content ≡ true → new.held.waiting ≡ []
    → is_maker new.held.content ≡ is_maker (items who).held.content → IsStill (set_item items who new)
set_still items who new s calm alone maker = record {
  calm = λ u. cond_both (same_who u who) new (items u) (λ x. is_calm x.held.content ≡ true) (λ e. calm) (λ e. s.calm u);
  alone = λ u. cond_both (same_who u who) new (items u) (λ x. x.held.waiting ≡ []) (λ e. alone) (λ e. s.alone u);
  makers = λ at. cond_both (same_who (RootOf 3 at) who) new (items (RootOf 3 at)) (λ x. is_maker x.held.content ≡ true)
      (λ e. maker ∙ (ap (λ u. is_maker (items u).held.content) (sym (same_who-true (RootOf 3 at) who e)) ∙ s.makers at)) (λ e. s.makers at);
}

-- one object is there more
made_still : (items : Who → Item) (count : ℕ) (new : Item) → IsStill items → is_calm new.held.content ≡ true → new.held.waiting ≡ []
    → IsStill (set_item items (Thing count) new)
made_still items count new s calm alone = record {
  calm = λ u. cond_both (same_who u (Thing count)) new (items u) (λ x. is_calm x.held.content ≡ true) (λ e. calm) (λ e. s.calm u);
  alone = λ u. cond_both (same_who u (Thing count)) new (items u) (λ x. x.held.waiting ≡ []) (λ e. alone) (λ e. s.alone u);
  makers = λ at. s.makers at;
}

-- ---- what an answer leaves

quiet_still : (e : Effect Datum) (ws : List What) (w : Option What) → IsQuiet e → still e ws w ≡ ws
quiet_still (Answers v) ws w q = refl
quiet_still (Moves to) ws w q = refl
quiet_still _ ws w q = absurd q

quiet_made : (e : Effect Datum) (items : Who → Item) (count place : ℕ) → IsQuiet e → with_made items count place e ≡ items
quiet_made (Answers v) items count place q = refl
quiet_made (Moves to) items count place q = refl
quiet_made _ items count place q = absurd q

module _ (v : Plain) (who : Who) (code : ℕ) (args : List Datum) where
  -- the call, and the object where it is made
  abbrev call : Call Datum What
  call = call_by code args NotSaid

  abbrev here : Item
  here = at_call (v.items who) call

  abbrev done : Called Datum
  done = called_on (setting here v.count) here.held call

  abbrev waiting : List What
  waiting = (v.items who).held.waiting

  abbrev new : Item
  new = record { kind = here.kind; place = here.place; held = next (setting here v.count) here.held call }

  quiet_names : (e : Effect Datum) → IsQuiet e → names_told (tells (setting here v.count) e waiting (Some NotSaid)) v.names ≡ v.names
  quiet_names (Answers x) q = refl
  quiet_names (Moves to) q = refl
  quiet_names _ q = absurd q

  quiet_count : (e : Effect Datum) → IsQuiet e → count_told (tells (setting here v.count) e waiting (Some NotSaid)) ≡ 1
  quiet_count (Answers x) q = refl
  quiet_count (Moves to) q = refl
  quiet_count _ q = absurd q

  -- a call that is no NEW, and whose answer is not said, leaves the names
  pub record MildCall : Type 0 where
    pub still : IsStill (call_end v who call).plain.items
    pub none : (call_end v who call).plain.awaited ≡ v.awaited
    pub names : (call_end v who call).plain.names ≡ v.names

  pub mild_call : IsStill v.items → is_mild (request_of (plain Who) code true args) ≡ true → MildCall
  mild_call s mild =
      let stays : StaysCalm (v.items who).held.content done =
      object_calm here.place here.kind (length waiting) (v.items who).held.content (request_of (plain Who) code true args) (s.calm who) mild in
      record {
        still = subst IsStill (sym (quiet_made done.effect (set_item v.items who new) v.count here.place stays.quiet))
            (set_still v.items who new s stays.calm (quiet_still done.effect waiting (Some NotSaid) stays.quiet ∙ s.alone who) stays.maker);
        none = ap (λ k. v.awaited + 1 - k) (quiet_count done.effect stays.quiet) ∙ (let e : v.awaited + 1 - 1 ≡ v.awaited = omega arith in e);
        names = quiet_names done.effect stays.quiet;
      }

-- ---- what a NEW leaves

maker_is : (x : Content Datum) → is_maker x ≡ true → x ≡ Maker
maker_is Maker h = refl
maker_is _ h = cc

module _ (v : Plain) (at : ℕ) (name : List ℕ) where
  abbrev new_call : Call Datum What
  new_call = call_by 5 (Text (codes "accumulator") ∷ []) (Bound name)

  abbrev root : Item
  root = at_call (v.items (RootOf 3 at)) new_call

  abbrev makes : Called Datum
  makes = called_on (setting root v.count) root.held new_call

  abbrev there : List What
  there = (v.items (RootOf 3 at)).held.waiting

  abbrev maker : Item
  maker = record { kind = root.kind; place = root.place; held = next (setting root v.count) root.held new_call }

  makes_number : is_maker (v.items (RootOf 3 at)).held.content ≡ true → makes ≡ record { content = Maker; effect = Makes (Number (pos 0)) }
  makes_number h =
      ap (λ x. on_content (plain Who) (length there) x (New (codes "accumulator") []))
      (maker_is (v.items (RootOf 3 at)).held.content h)

  -- an accumulator is made, and a name stands for it
  pub record NewCall : Type 0 where
    pub still : IsStill (call_end v (RootOf 3 at) new_call).plain.items
    pub none : (call_end v (RootOf 3 at) new_call).plain.awaited ≡ v.awaited
    pub names : (call_end v (RootOf 3 at) new_call).plain.names ≡ without name v.names ++ record { name = name; to = Some (Ref (Thing v.count)) } ∷ []

  pub new_made : IsStill v.items → NewCall
  new_made s =
      let is = makes_number (s.makers at) in
      let effect : makes.effect ≡ Makes (Number (pos 0)) = ap (λ (c : Called Datum). c.effect) is in
      let content : makes.content ≡ Maker = ap (λ (c : Called Datum). c.content) is in
      let root_still : IsStill (set_item v.items (RootOf 3 at) maker) =
      set_still v.items (RootOf 3 at) maker s (ap is_calm content)
      (ap (λ e. still e there (Some (Bound name))) effect ∙ s.alone (RootOf 3 at))
      (ap is_maker content ∙ sym (s.makers at)) in
      record {
        still = subst (λ e. IsStill (with_made (set_item v.items (RootOf 3 at) maker) v.count root.place e)) (sym effect)
            (made_still (set_item v.items (RootOf 3 at) maker) v.count _ root_still refl refl);
        none = ap (λ e. v.awaited + 1 - count_told (tells (setting root v.count) e there (Some (Bound name)))) effect
            ∙ (let e : v.awaited + 1 - 1 ≡ v.awaited = omega arith in e);
        names = ap (λ e. names_told (tells (setting root v.count) e there (Some (Bound name))) v.names) effect;
      }
