-- A whole line over the plain pool: once nothing is pending, it has printed what the plain space says, and before that a front of it.
use Rattle.std.specs.List.{concat}
use Rattle.std.proofs.Common.{ℕ, zero, suc, List, [], ◌∷◌, ◌++◌, ◌≡◌, ◌+◌, ◌≤◌, ◌⊎◌, Option, Some, refl, sym, ap, ◌∙◌, subst, inl, inr, length, append_assoc}
use Rattle.hpx_parcel.specs.declared.parcel.Parcel.{Parcel}
use Rattle.hpx_journal.specs.Entries.{Rules, line_message}
use Rattle.hpx_journal.specs.Pool.{Pool, fed}
use Rattle.hpx_journal.specs.Sessions.{IsStep, Steps, IsPlainBlock, IsPlainFront, at_rest}
use Rattle.app_console.specs.Types.{Console}
use Rattle.app_console.specs.Session
use Rattle.app_console.specs.Judging.{Acting, judging}
use Rattle.app_console.specs.Plain.{Plain, End, call_by, call_end, line_end}
use Rattle.app_console.specs.Lines.{IsFront}
use Rattle.app_console.proofs.Comings.{times}
use Rattle.app_console.proofs.Slots.{times_add}
use Rattle.app_console.proofs.Effects.{Answering, concat-append}
use Rattle.app_console.proofs.Steps.{Settled, Asking, ask_step, answer_step, over}
use Rattle.app_console.proofs.LineSteps.{Fed, IsAsked, IsFirst, line_step}

-- what was printed is taken away
pub rested : (n k : ℕ) (v : Plain) (p p' : Pool) → p' ≡ at_rest p → Settled n k v p → Settled n k v p'
rested n k v p p' is h = subst (Settled n k v) (sym is) (record {
  ref = h.ref;
  slots = h.slots;
  drawn = h.drawn;
  few = h.few;
  aw = h.aw;
  named = h.named;
  fits = h.fits;
  stands = h.stands;
  placed = h.placed;
  alike = h.alike;
  home = h.home;
  fit = h.fit;
  desk = h.desk;
  pending = h.pending;
})

-- a line is fed
pub waits : (n k : ℕ) (v : Plain) (bytes : List ℕ) (p : Pool) → Settled n k v p → Fed n k v bytes (fed (at_rest p) bytes)
waits n k v bytes p h = record {
  ref = h.ref;
  slots = h.slots;
  drawn = h.drawn;
  few = h.few;
  aw = h.aw;
  names = h.named;
  fits = h.fits;
  stands = h.stands;
  placed = h.placed;
  alike = h.alike;
  home = h.home;
  fit = h.fit;
  desk = h.desk;
  pending = ap (λ ms. line_message bytes ∷ ms) h.pending;
  printed = refl;
}

module _ (acts : Acting) (n log limit : ℕ) (parcel_of : List ℕ → Option Parcel) (some : 1 ≤ n) (few : n ≤ 64) (k : ℕ) (little : k + 1 ≤ 4000000000) (lower : k ≤ 4000000000) (v : Plain) (con : Console)
    (mark : ℕ) (line : List ℕ) (mark_is : Session.console_of mark ≡ Some con) (short : length line ≤ 16384) (first : IsFirst con v) where
  abbrev pub r : Rules
  r = judging acts n log limit parcel_of

  abbrev pub e : End
  e = line_end con n v line

  abbrev pub Phase : Pool → Type 0
  Phase p = Fed n k v (mark ∷ line) p ⊎ (IsAsked n (k + 1) v e p ⊎ Answering n (k + 1) e.plain e.text p)

  asked_next : (q : Pool) (x : End) → e ≡ x → Answering n (k + 1) x.plain x.text q → Answering n (k + 1) e.plain e.text q
  asked_next q x is h = let P : End → Type 0 = λ z. Answering n (k + 1) z.plain z.text q in subst P (sym is) h

  phase_step : (p q : Pool) → Phase p → IsStep r p q → Phase q
  phase_step p q (inl f) step = inr (line_step acts n log limit parcel_of some few k lower v con mark line mark_is short first p q f step)
  phase_step p q (inr (inl x)) step = by_step (ask_step acts n log limit parcel_of some few (k + 1) v x.who x.code x.args x.what p q x.asking step)
    where
      by_step : Asking n (k + 1) v x.who x.code x.args x.what q ⊎ Answering n (k + 1) (call_end v x.who (call_by x.code x.args x.what)).plain (call_end v x.who (call_by x.code x.args x.what)).text q → Phase q
      by_step (inl y) = inr (inl (record { who = x.who; code = x.code; args = x.args; what = x.what; asking = y; ends = x.ends }))
      by_step (inr y) = inr (inr (asked_next q (call_end v x.who (call_by x.code x.args x.what)) x.ends y))
  phase_step p q (inr (inr x)) step = inr (inr (answer_step acts n log limit parcel_of few (k + 1) little e.plain e.text p q x step))

  pub phases : (j : ℕ) (p q : Pool) → Phase p → Steps r j p q → Phase q
  phases zero p q x is = subst Phase (sym is) x
  phases (suc j) p q x steps = phases j steps.0 q (phase_step p steps.0 x steps.1) steps.2

  pub ended : (q : Pool) → Phase q → q.pending ≡ [] → Settled n (k + 1) e.plain q × (concat q.printed ≡ e.text)
  ended q (inl f) none = absurd (let g : line_message (mark ∷ line) ∷ [] ≡ [] = sym f.pending ∙ none in cc)
  ended q (inr (inl x)) none = absurd (let g = sym x.asking.pending ∙ none in cc)
  ended q (inr (inr x)) none = over n (k + 1) e.plain e.text q x none

  begun : (q : Pool) → Phase q → IsFront (concat q.printed) e.text
  begun q (inl f) = record { later = e.text; is = ap (λ xs. concat xs ++ e.text) f.printed }
  begun q (inr (inl x)) = record { later = e.text; is = ap (λ xs. concat xs ++ e.text) x.asking.printed }
  begun q (inr (inr x)) = record {
    later = concat (times x.left x.line);
    is = ap (λ xs. concat xs ++ concat (times x.left x.line)) x.printed
        ∙ (sym (concat-append (x.said ++ times x.done x.line) (times x.left x.line))
        ∙ (ap concat (append_assoc x.said (times x.done x.line) (times x.left x.line) ∙ (ap (λ xs. x.said ++ xs) (times_add x.done x.left x.line) ∙ ap (λ i. x.said ++ times i x.line) x.count)) ∙ x.written));
  }

  -- a whole line
  pub block : (text : List (List ℕ)) (p p' : Pool) → Settled n k v p → IsPlainBlock r p (mark ∷ line) text p' → Settled n (k + 1) e.plain p' × (concat text ≡ e.text)
  block text p p' h b =
      let last = ended b.end (phases b.steps (fed (at_rest p) (mark ∷ line)) b.end (inl (waits n k v (mark ∷ line) p h)) b.acts) b.idle in
      (rested n (k + 1) e.plain b.end p' b.keeps last.0, ap concat b.printed ∙ last.1)

  -- one that is broken off
  pub front : (text : List (List ℕ)) (p : Pool) → Settled n k v p → IsPlainFront r p (mark ∷ line) text → IsFront (concat text) e.text
  front text p h b =
      let part = begun b.end (phases b.steps (fed (at_rest p) (mark ∷ line)) b.end (inl (waits n k v (mark ∷ line) p h)) b.acts) in
      record {
        later = concat b.later ++ part.later;
        is = sym (append_assoc (concat text) (concat b.later) part.later) ∙ (ap (λ t. t ++ part.later) (sym (concat-append text b.later) ∙ ap concat b.printed) ∙ part.is);
      }
