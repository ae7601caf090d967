-- Neither the name of an action nor the credits of ids matter to an outcome.
use Rattle.std.specs.Prelude.{ℕ, pos, List, [], ◌∷◌, ◌++◌, ◌+◌, ◌-◌, ◌≡◌, Option, Some, None, length, map, refl}
use Rattle.std.proofs.Common.{ap, sym, ◌∙◌}
use Rattle.std.proofs.lemmas.List.{length-map}
use Rattle.hpx_value.specs.Ids.{bare}
use Rattle.hpx_value.specs.Values.{bare_state, bare_act, named, message_of}
use Rattle.hpx_value.specs.declared.value.Value.{Value}
use Rattle.hpx_value.specs.declared.value.Value.TheVariants.{Int, Ref}
use Rattle.hpx_value.specs.declared.value.Cont.{Cont}
use Rattle.hpx_value.specs.declared.value.State.{State}
use Rattle.hpx_value.specs.declared.value.Act.{Act}
use Rattle.hpx_calls.specs.declared.effect.Called.{Called}
use Rattle.hpx_calls.specs.Values.{spelled, shifted}
use Rattle.hpx_calls.specs.Requests.{request_of}
use Rattle.hpx_calls.specs.Contents.{layout}
use Rattle.hpx_calls.specs.Effects.{Effect, Silent, Answers, Waits, Frees, Starts, Hands, Moves, Makes}
use Rattle.hpx_calls.specs.Tables.{called}
use Rattle.hpx_calls.specs.Outcomes.{numbers, has_cont, own_reply, freed, started, make_of, outcome, comes_to, content_in, outcome_of}

abbrev blind : Act → Act
blind a = named 0 0 (message_of (bare_act a))

own_blind : (s : State) (c : Option Cont) (v : Value) → own_reply s c v ≡ own_reply (bare_state s) c v
own_blind s None v = refl
own_blind s (Some c) v = refl

comes_blind : (here : ℕ) (s : State) (a : Act) (vs : List Value) (e : Effect Value) → comes_to here s a vs e ≡ comes_to here (bare_state s) (blind a) vs e
comes_blind here s a vs Silent = refl
comes_blind here s a vs (Answers v) = ap (outcome s vs (numbers 0 (length s.conts)) [] []) (own_blind s a.cont v)
comes_blind here s a vs Waits = refl
comes_blind here s a vs (Frees count v own) = ap (λ rs. outcome s vs (numbers count (length s.conts - count)) [] [] (freed v 0 count ++ rs)) (own_blind s a.cont own)
comes_blind here s a vs (Starts code args) = refl
comes_blind here s a vs (Hands code args own) = ap (outcome s vs (numbers 1 (length s.conts - 1)) [] (started here code args 0 ∷ [])) (own_blind s a.cont own)
comes_blind here s a vs (Moves to) = ap (outcome s vs (numbers 0 (length s.conts)) [] []) (own_blind s a.cont (Int (pos here)))
comes_blind here s a vs (Makes x) =
    ap (outcome s vs (numbers 0 (length s.conts)) (make_of x ∷ []) [])
    (own_blind s a.cont (Ref (length s.ids + length a.ids))
    ∙ ap (λ m. own_reply (bare_state s) a.cont (Ref m)) (sym (ap (λ k. k + length (map bare a.ids)) (length-map s.ids bare) ∙ ap (λ k. length s.ids + k) (length-map a.ids bare))))

pub outcome_blind : (n kind here : ℕ) (s : State) (a : Act) → outcome_of n kind here s a ≡ outcome_of n kind here (bare_state s) (blind a)
unfolding outcome_of
outcome_blind n kind here s a =
    ap (λ (c : Called Value). comes_to here s a (layout spelled c.content) c.effect)
    (ap (λ m. called spelled here kind (length s.conts) (has_cont a.cont) (content_in n kind s) (request_of spelled a.code (has_cont a.cont) (map (shifted m) a.args)))
    (sym (length-map s.ids bare)))
    ∙ comes_blind here s a _ _
