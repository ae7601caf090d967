-- What spells a parcel is a frame.
use Rattle.std.proofs.Common.{ℕ, List, true, ◌≡◌, refl, ap, ◌∙◌}
use Rattle.hpx_journal.specs.Data.{Apply, Arrived, Ask, Cached, Free, Give, Go, Move, Parcel, Return, Shipped}
use Rattle.hpx_parcel.specs.Spelling.{text_of}
use Rattle.hpx_member.specs.Bodies.{is_frame}

text_framed : (p : Parcel) → is_frame (text_of p) ≡ true
unfolding text_of
text_framed (Apply a) = refl
text_framed (Return id) = refl
text_framed (Ask id asker entry) = refl
text_framed (Give id entry) = refl
text_framed (Cached id place) = refl
text_framed (Move a) = refl
text_framed (Go a) = refl
text_framed (Shipped a s) = refl
text_framed (Arrived id place) = refl
text_framed (Free id) = refl

pub spelled_framed : (p : Parcel) (bytes : List ℕ) → bytes ≡ text_of p → is_frame bytes ≡ true
spelled_framed p bytes is = ap is_frame is ∙ text_framed p
