-- What a worker has heard, as its link tells more.
use Rattle.std.proofs.Common.{ℕ, List, [], ◌∷◌, ◌++◌, ◌≡◌, ◌≢◌, ◌≤◌, true, Option, Some, None, Result, Ok, Err, refl, sym, ap, ◌∙◌, subst, arith, append-nil, append_assoc, length, inl, inr}
use Rattle.std.specs.Prelude.{option_map, ◌==◌}
use Rattle.std.specs.Option.{option_to_list}
use Rattle.std.specs.Result.{OnOk, IfErr}
use Rattle.std.specs.List.{AllByRecursion}
use Rattle.std.proofs.lemmas.Bool.{cases_Bool, eqb-true}
use Rattle.hpx_ports.specs.Told.{followed}
use Rattle.hpx_ports.specs.declared.link.Post.{Post}
use Rattle.hpx_ports.specs.declared.link.Post.TheVariants.{Sent, Received}
use Rattle.hpx_member.specs.Bodies.{counts_of, end_body, is_frame, is_wave}
use Rattle.hpx_member.specs.declared.bodies.Told.{Told}
use Rattle.hpx_member.specs.Seats.{MaySend}
use Rattle.hpx_member.specs.Stops.{IsOther, end_status}
use Rattle.hpx_member.specs.Words.{Heeds, HeedsBut, IsHeeded, IsInPlace, StopsHeeding, wave_got, wave_of, wave_told, waves_got, waves_told}
use Rattle.hpx_member.specs.declared.stop.MemberFault.TheVariants.{BadFrame, Strange, OutOfPlace, Waves}
use Rattle.hpx_member.specs.declared.stop.Stop.{Stop}
use Rattle.hpx_member.specs.declared.stop.Stop.TheVariants.{Link, JournalFull, OutOfMemory, Fault}
use Rattle.hpx_member.proofs.Grown.{all-append, flat-one, frame_tells}

some_is : (a b : List Post) → Some a ≡ Some b → a ≡ b
some_is a b h = cc

-- one post more
one_more : (ws ws' : List ℕ) (x : Post) (trace : Option (List Post)) → IsInPlace x → ws ++ wave_got x ≡ wave_told x ++ ws' → IsHeeded ws trace
    → IsHeeded ws' (followed trace (x ∷ []))
one_more ws ws' x None placed same h = record { words = λ tr t. absurd (cc); waves = λ tr t. absurd (cc) }
one_more ws ws' x (Some old) placed same h = record {
  words = λ tr t. subst (AllByRecursion IsInPlace) (some_is (old ++ x ∷ []) tr t) (all-append IsInPlace old (x ∷ []) (h.words old refl) (placed, tt));
  waves = λ tr t. subst (λ ps. waves_got ps ≡ waves_told ps ++ ws') (some_is (old ++ x ∷ []) tr t)
      (flat-one wave_got old x
      ∙ (ap (λ xs. xs ++ wave_got x) (h.waves old refl)
      ∙ (append_assoc (waves_told old) ws (wave_got x)
      ∙ (ap (λ xs. waves_told old ++ xs) same
      ∙ (sym (append_assoc (waves_told old) (wave_told x) ws') ∙ ap (λ xs. xs ++ ws') (sym (flat-one wave_told old x)))))));
}

heeded_sent : (ws : List ℕ) (trace trace' : Option (List Post)) (to : ℕ) (frame bytes : List ℕ) → IsHeeded ws trace → is_frame frame ≡ true
    → trace' ≡ followed trace (Sent to bytes ∷ []) → bytes ≡ frame → IsHeeded ws trace'
heeded_sent ws trace trace' to frame bytes h framed told same =
    let none : wave_told (Sent to bytes) ≡ [] = ap (λ c. option_to_list (option_map (λ (x : Told). x.wave) c)) (frame_tells bytes (ap is_frame same ∙ framed)) in
    subst (IsHeeded ws) (sym told) (one_more ws ws (Sent to bytes) trace tt (append-nil ws ∙ ap (λ xs. xs ++ ws) (sym none)) h)

pub heeded_pumped : (ws : List ℕ) (trace trace' : Option (List Post)) → MaySend trace trace' → IsHeeded ws trace → IsHeeded ws trace'
heeded_pumped ws trace trace' (inl same) h = subst (IsHeeded ws) (sym same) h
heeded_pumped ws trace trace' (inr (to, (frame, (framed, told)))) h = heeded_sent ws trace trace' to frame frame h framed told refl

pub heeded_told : (ws : List ℕ) (trace trace' : Option (List Post)) (to : ℕ) (body bytes : List ℕ) (c : Told) → IsHeeded (c.wave ∷ ws) trace
    → counts_of body ≡ Some c → trace' ≡ followed trace (Sent to bytes ∷ []) → bytes ≡ body → IsHeeded ws trace'
heeded_told ws trace trace' to body bytes c h counts told same =
    let one : wave_told (Sent to bytes) ≡ c.wave ∷ [] = ap (λ x. option_to_list (option_map (λ (x : Told). x.wave) x)) (ap counts_of same ∙ counts) in
    subst (IsHeeded ws) (sym told) (one_more (c.wave ∷ ws) ws (Sent to bytes) trace tt (append-nil (c.wave ∷ ws) ∙ ap (λ xs. xs ++ ws) (sym one)) h)

frame_no_wave : (body : List ℕ) → is_frame body ≡ true → wave_of body ≡ None
frame_no_wave [] h = refl
frame_no_wave (f ∷ bytes) h = elim (cases_Bool (f == 240)) [
  | inl is ↦ absurd (let e : f ≡ 240 = eqb-true f 240 is in let odd : is_frame (240 ∷ bytes) ≡ true = subst (λ g. is_frame (g ∷ bytes) ≡ true) e h in cc)
  | inr other ↦ rw other refl
]

pub heeded_frame : (ws : List ℕ) (trace trace' : Option (List Post)) (from : ℕ) (body : List ℕ) → IsHeeded ws trace → is_frame body ≡ true
    → trace' ≡ followed trace (Received from body ∷ []) → IsHeeded ws trace'
heeded_frame ws trace trace' from body h framed told =
    let none : wave_got (Received from body) ≡ [] = ap option_to_list (frame_no_wave body framed) in
    subst (IsHeeded ws) (sym told)
    (one_more ws ws (Received from body) trace (λ control. absurd (let e = sym framed ∙ control in cc)) (ap (λ xs. ws ++ xs) none ∙ append-nil ws) h)

pub heeded_wave : (ws : List ℕ) (trace trace' : Option (List Post)) (from n : ℕ) (body : List ℕ) → IsHeeded ws trace → from ≡ 0 → is_wave body ≡ true
    → wave_of body ≡ Some n → trace' ≡ followed trace (Received from body ∷ []) → IsHeeded (ws ++ n ∷ []) trace'
heeded_wave ws trace trace' from n body h first is wave told =
    subst (IsHeeded (ws ++ n ∷ [])) (sym told)
    (one_more ws (ws ++ n ∷ []) (Received from body) trace (λ control. (first, is)) (ap (λ x. ws ++ option_to_list x) wave) h)

-- ---- where it ends

followed_none : (trace : Option (List Post)) → trace ≡ followed trace []
followed_none None = refl
followed_none (Some tr) = ap (λ x. Some x) (sym (append-nil tr))

pub heeded_all : (ws : List ℕ) (trace : Option (List Post)) → IsHeeded ws trace → HeedsBut [] trace
heeded_all ws trace h = record { earlier = trace; is = followed_none trace; waiting = ws; heeded = h }

pub heeds_stop : (stop : Stop) (trace : Option (List Post)) → IsOther stop → HeedsBut [] trace → StopsHeeding stop trace
heeds_stop Link trace o h = h
heeds_stop JournalFull trace o h = h
heeds_stop OutOfMemory trace o h = h
heeds_stop (Fault (BadFrame from at why)) trace o h = h
heeds_stop (Fault (Strange from rule object kept)) trace o h = h
heeds_stop (Fault (OutOfPlace from)) trace o h = absurd o
heeds_stop (Fault Waves) trace o h = absurd o

-- ---- what a link that tells shows of it

module _ (status : ℕ) (tr last : List Post) (few : length last ≤ 1) (end : status ≡ 0 → last ≡ Received 0 end_body ∷ [])
    (none : status ≢ 0 → status ≢ 8 → last ≡ []) where
  heeds_from : (earlier : Option (List Post)) (ws : List ℕ) → Some tr ≡ followed earlier last → IsHeeded ws earlier → Heeds status tr
  heeds_from None ws is h = absurd (cc)
  heeds_from (Some before) ws is h = record {
    before = before;
    last = last;
    is = some_is tr (before ++ last) is;
    few = few;
    words = h.words before refl;
    waiting = ws;
    waves = h.waves before refl;
    end = end;
    none = none;
  }

  heeds_but : (trace : Option (List Post)) → HeedsBut last trace → trace ≡ Some tr → Heeds status tr
  heeds_but trace h told = heeds_from h.earlier h.waiting (sym told ∙ h.is) h.heeded

-- a stop for another cause: no word came last
heeds_other : (n : ℕ) (trace : Option (List Post)) (tr : List Post) → (n ≡ 0 → ⊥) → HeedsBut [] trace → trace ≡ Some tr → Heeds n tr
heeds_other n trace tr some h told = heeds_but n tr [] (omega arith) (λ zero. absurd (some zero)) (λ a b. refl) trace h told

pub heeds_stopped : (stop : Stop) (trace : Option (List Post)) (tr : List Post) → StopsHeeding stop trace → trace ≡ Some tr → Heeds (end_status (Err stop)) tr
heeds_stopped Link trace tr h told = heeds_other 4 trace tr (λ e. omega (arith, e)) h told
heeds_stopped JournalFull trace tr h told = heeds_other 5 trace tr (λ e. omega (arith, e)) h told
heeds_stopped OutOfMemory trace tr h told = heeds_other 6 trace tr (λ e. omega (arith, e)) h told
heeds_stopped (Fault (BadFrame from at why)) trace tr h told = heeds_other 7 trace tr (λ e. omega (arith, e)) h told
heeds_stopped (Fault (Strange from rule object kept)) trace tr h told = heeds_other 8 trace tr (λ e. omega (arith, e)) h told
heeds_stopped (Fault (OutOfPlace from)) trace tr h told =
    heeds_but 8 tr (Received from h.0 ∷ []) (omega arith) (λ e. absurd (omega (arith, e))) (λ a b. absurd (b refl)) trace h.1 told
heeds_stopped (Fault Waves) trace tr h told = absurd h

pub heeds_told : (trace : Option (List Post)) (tr : List Post) → HeedsBut (Received 0 end_body ∷ []) trace → trace ≡ Some tr → Heeds 0 tr
heeds_told trace tr h told = heeds_but 0 tr (Received 0 end_body ∷ []) (omega arith) (λ e. refl) (λ a b. absurd (a refl)) trace h told

pub heeds_ran : (ran : Result (Unit {0}) Stop) (trace : Option (List Post)) (tr : List Post) → OnOk ran (HeedsBut (Received 0 end_body ∷ []) trace)
    → IfErr ran (λ stop. StopsHeeding stop trace) → trace ≡ Some tr → Heeds (end_status ran) tr
heeds_ran (Ok x) trace tr end stopped told = heeds_told trace tr end told
heeds_ran (Err stop) trace tr end stopped told = heeds_stopped stop trace tr stopped told
