-- What the steps of an act come to, put together.
use Rattle.std.specs.Prelude.{ℕ, Bool, ◌≡◌, Option, Some, None, is_some, length, refl}
use Rattle.std.proofs.Common.{ap, ◌∙◌}
use Rattle.hpx_value.specs.declared.value.Value.{Value}
use Rattle.hpx_value.specs.declared.value.Cont.{Cont}
use Rattle.hpx_value.specs.declared.value.State.{State}
use Rattle.hpx_value.specs.declared.value.Act.{Act}
use Rattle.hpx_calls.specs.declared.content.Content.{Content}
use Rattle.hpx_calls.specs.declared.request.Request.{Request}
use Rattle.hpx_calls.specs.declared.effect.Called.{Called}
use Rattle.hpx_calls.specs.Values.{spelled}
use Rattle.hpx_calls.specs.Contents.{layout}
use Rattle.hpx_calls.specs.Tables.{called}
use Rattle.hpx_calls.specs.Outcomes.{comes_to, content_in, request_in, has_cont, outcome_of}

pub is_some-cont : (o : Option Cont) → is_some o ≡ has_cont o
is_some-cont None = refl
is_some-cont (Some c) = refl

pub comes_to-outcome : (n kind here : ℕ) (s : State) (a : Act) (x : Content Value) (q : Request Value) (w : ℕ) (b : Bool) (c : Called Value)
    → x ≡ content_in n kind s → q ≡ request_in s a → w ≡ length s.conts → b ≡ is_some a.cont → c ≡ called spelled here kind w b x q
    → comes_to here s a (layout spelled c.content) c.effect ≡ outcome_of n kind here s a
unfolding outcome_of
comes_to-outcome n kind here s a x q w b c ex eq ew eb ec =
    ap (λ (d : Called Value). comes_to here s a (layout spelled d.content) d.effect)
    (ec ∙ ap (λ m. called spelled here kind m b x q) ew ∙ ap (λ m. called spelled here kind (length s.conts) m x q) (eb ∙ is_some-cont a.cont)
    ∙ ap (λ y. called spelled here kind (length s.conts) (has_cont a.cont) y q) ex
    ∙ ap (called spelled here kind (length s.conts) (has_cont a.cont) (content_in n kind s)) eq)
