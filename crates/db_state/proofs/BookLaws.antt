-- A book that is orderly and explained, with one note more.
use Rattle.std.proofs.Common.{◌≡◌, false, List, [], ◌∷◌, ◌++◌, IsSome, refl, sym, subst}
use Rattle.hops_base.specs.declared.ids.SessionId.{SessionId}
use Rattle.commit_log.specs.declared.note.Note.{Note}
use Rattle.commit_log.specs.Parts.{opening_of}
use Rattle.commit_log.specs.Orderly.{NumberedAt, AllowedAt, OpenedAt, UnendedAt, AnsweredAt}
use Rattle.commit_log.specs.Locks.{SoundAt}
use Rattle.commit_log.specs.Licensed.{LicensedAt}
use Rattle.commit_log.specs.Kept.{InOrderAt, AnswersHeldAt}
use Rattle.commit_log.proofs.AlongLaws.{Each-push}
use Rattle.commit_log.proofs.OrderLaws.{orderly-push}
use Rattle.db_state.specs.Settings.{Settings}
use Rattle.db_state.specs.BookParts.{terms_in, NeverFallsAt, IsLastAt, is_beyond, IsBook}
use Rattle.db_state.specs.declared.session.Session.{Session}
use Rattle.db_state.specs.SessionParts.{IsOpened}
use Rattle.db_state.proofs.BookTellLaws.{any-push}

-- what a note must be for the book to stay orderly and explained
pub record Fits (settings : Settings) (notes : List Note) (note : Note) : Type 0 where
  pub numbered : NumberedAt notes note
  pub allowed : AllowedAt (terms_in settings) notes note
  pub opened : OpenedAt notes note
  pub unended : UnendedAt notes note
  pub answered : AnsweredAt (terms_in settings) notes note
  pub sound : SoundAt notes note
  pub licensed : LicensedAt notes note
  pub in_order : InOrderAt notes note
  pub never_falls : NeverFallsAt notes note
  pub last : IsLastAt notes note
  pub within : is_beyond note ≡ false
  pub held : AnswersHeldAt settings.users notes note

pub book-push : (settings : Settings) (notes : List Note) (note : Note) → Fits settings notes note → IsBook settings notes → IsBook settings (notes ++ note ∷ [])
book-push settings notes note fits book = record {
  orderly = orderly-push (terms_in settings) notes note book.orderly fits.numbered fits.allowed fits.opened fits.unended fits.answered;
  sound = Each-push SoundAt notes note book.sound fits.sound;
  licensed = Each-push LicensedAt notes note book.licensed fits.licensed;
  in_order = Each-push InOrderAt notes note book.in_order fits.in_order;
  never_falls = Each-push NeverFallsAt notes note book.never_falls fits.never_falls;
  last = Each-push IsLastAt notes note book.last fits.last;
  within = any-push is_beyond notes note book.within fits.within;
  held = Each-push (AnswersHeldAt settings.users) notes note book.held fits.held;
}

-- a session of which the book tells was opened
pub was_opened : (notes : List Note) (s : SessionId) (session : Session) → IsOpened notes s session → IsSome (opening_of notes s)
was_opened notes s session is = subst IsSome (sym is.opening) refl
