-- What an outcome names, and which of its answers ride, is the same without credits.
use Rattle.std.proofs.Common.{ℕ, List, [], ◌∷◌, ◌++◌, ◌≡◌, ◌+◌, ◌==◌, ◌&&◌, not, nat_le, length, map, refl, ap, ◌∙◌}
use Rattle.std.specs.Prelude.{flat_map, is_some}
use Rattle.std.specs.List.{list_any, slice_index_or}
use Rattle.std.proofs.lemmas.List.{length-map}
use Rattle.hpx_value.specs.Ids.{Id, bare}
use Rattle.hpx_value.specs.Values.{bare_act, bare_state, refs_in}
use Rattle.hpx_value.specs.Shapes.{places_of, listed}
use Rattle.hpx_value.specs.declared.outcome.NewState.{NewState}
use Rattle.hpx_value.specs.Mentions.{cont_place, made_place, handed_places, target_places, state_mentions, send_mentions, reply_mentions, mentions}
use Rattle.hpx_value.specs.Riders.{names_target, may_ride, rides, rides_with}
use Rattle.hpx_commit.proofs.Common.{State, Act, SendCont, NoCont, Own, Made, Here, Sending, Reply, Outcome}
use Rattle.hpx_commit.proofs.Places.{at_map}

-- the same of each
same_map : {X Y : Type 0} (f g : X → Y) (xs : List X) → ((x : X) → f x ≡ g x) → map f xs ≡ map g xs
same_map f g [] e = refl
same_map f g (x ∷ xs) e = ap (λ y. y ∷ map f xs) (e x) ∙ ap (λ ys. g x ∷ ys) (same_map f g xs e)

same_flat : {X Y : Type 0} (f g : X → List Y) (xs : List X) → ((x : X) → f x ≡ g x) → flat_map f xs ≡ flat_map g xs
same_flat f g [] e = refl
same_flat f g (x ∷ xs) e = ap (λ ys. ys ++ flat_map f xs) (e x) ∙ ap (λ ys. g x ++ ys) (same_flat f g xs e)

module _ (s : State) (a : Act) where
  cont_place-bare : (n : ℕ) → cont_place (bare_state s) (bare_act a) n ≡ cont_place s a n
  cont_place-bare n = ap (λ k. slice_index_or (places_of s.conts ++ map (λ place. k + place) (places_of (listed a.cont))) n 0) (length-map s.ids bare)

  made_place-bare : (make : ℕ) → made_place (bare_state s) (bare_act a) make ≡ made_place s a make
  made_place-bare make =
      ap (λ k. k + length (map bare a.ids) + make) (length-map s.ids bare) ∙ ap (λ k. length s.ids + k + make) (length-map a.ids bare)

  state-bare : (new : NewState) → state_mentions (bare_state s) (bare_act a) new ≡ state_mentions s a new
  state-bare new = ap (λ ps. refs_in new.values ++ ps) (same_map (cont_place (bare_state s) (bare_act a)) (cont_place s a) new.conts cont_place-bare)

  handed-bare : (c : SendCont) → handed_places (bare_state s) (bare_act a) c ≡ handed_places s a c
  handed-bare NoCont = refl
  handed-bare (Own number) = ap (λ p. p ∷ []) (cont_place-bare number)
  handed-bare (Made make slot) = ap (λ p. p ∷ []) (made_place-bare make)
  handed-bare (Here slot) = refl

  send-bare : (x : Sending) → send_mentions (bare_state s) (bare_act a) x ≡ send_mentions s a x
  send-bare x = ap (λ ps. target_places x.target ++ (refs_in x.args ++ ps)) (handed-bare x.cont)

  reply-bare : (x : Reply) → reply_mentions (bare_state s) (bare_act a) x ≡ reply_mentions s a x
  reply-bare x = ap (λ p. p ∷ refs_in (x.value ∷ [])) (cont_place-bare x.cont)

  mentions-bare : (out : Outcome) → mentions (bare_state s) (bare_act a) out ≡ mentions s a out
  mentions-bare out =
      ap (λ ps. ps ++ (flat_map (send_mentions (bare_state s) (bare_act a)) out.sends ++ flat_map (reply_mentions (bare_state s) (bare_act a)) out.replies))
      (state-bare out.state)
      ∙ (ap (λ ps. state_mentions s a out.state ++ (ps ++ flat_map (reply_mentions (bare_state s) (bare_act a)) out.replies))
      (same_flat (send_mentions (bare_state s) (bare_act a)) (send_mentions s a) out.sends send-bare)
      ∙ ap (λ ps. state_mentions s a out.state ++ (flat_map (send_mentions s a) out.sends ++ ps))
      (same_flat (reply_mentions (bare_state s) (bare_act a)) (reply_mentions s a) out.replies reply-bare))

  pub rides-bare : (out : Outcome) (x : Reply) → rides (bare_state s) (bare_act a) out x ≡ rides s a out x
  rides-bare out x =
      ap (λ named. rides_with s (may_ride (bare_act a) named) x)
      (ap (λ k. list_any (λ p. p == k) (mentions (bare_state s) (bare_act a) out)) (length-map s.ids bare)
      ∙ ap (λ ps. list_any (λ p. p == length s.ids) ps) (mentions-bare out))
      ∙ ap (λ (id : Id). rides_with s (is_some a.cont && ((not (a.code == 1) && nat_le 16 id.kind) && not (names_target s a out))) x) (at_map bare a.ids 0)
