-- Blanks and comments: what is passed by leaves the tokens ahead as they are.
use Rattle.std.proofs.Common.{◌≡◌, ◌∙◌, ℕ, true, List, ◌∷◌, refl, sym, ap, Option, None, Some}
use Rattle.std.proofs.lemmas.Bool.{cond-true, false≢true}
use Rattle.rich_text.specs.Tokens.{is_blank}
use Rattle.rich_text.specs.Places.{Place, place_behind}
use Rattle.rich_text.specs.Lexing.{Inside, InBlank, lexed_from}
use Rattle.rw_tokens.specs.Streams.{Remains}
use Rattle.rw_tokens.specs.Found.{Skips, TakesByte, begins_blank, first_of}

pub skips_none : (inside : Inside) (r : Remains) → Skips inside r inside r
skips_none inside r = λ d. refl

pub skips_both : (a b c : Inside) (r s t : Remains) → Skips a r b s → Skips b s c t → Skips a r c t
skips_both a b c r s t h g = λ d. h d ∙ g d

-- the byte that was taken off
pub taken : (old new : Remains) (o : Option ℕ) (b : ℕ) → first_of old.bytes ≡ Some b → TakesByte old new o → (old.bytes ≡ b ∷ new.bytes) × (new.at ≡ place_behind b old.at)
taken old new None b h t = absurd (let e : None ≡ Some b = ap first_of (sym t.0) ∙ h in cc)
taken old new (Some c) b h t = let same : Some c ≡ Some b = ap first_of (sym t.0) ∙ h in let e : c ≡ b = cc in (t.0 ∙ ap (λ x. x ∷ new.bytes) e, t.1 ∙ ap (λ x. place_behind x old.at) e)

blank_bytes : (bytes bs : List ℕ) (at behind : Place) (b d : ℕ) → is_blank b ≡ true → bytes ≡ b ∷ bs → behind ≡ place_behind b at → lexed_from bytes InBlank at d ≡ lexed_from bs InBlank behind d
blank_bytes bytes bs at behind b d h e p = ap (λ x. lexed_from x InBlank at d) e ∙ cond-true (is_blank b) _ _ h ∙ ap (λ x. lexed_from bs InBlank x d) (sym p)

pub blank_passed : (old new : Remains) (o : Option ℕ) → begins_blank old.bytes ≡ true → TakesByte old new o → Skips InBlank old InBlank new
blank_passed old new None h t = absurd (false≢true (ap begins_blank (sym t.0) ∙ h))
blank_passed old new (Some b) h t = λ d. blank_bytes old.bytes new.bytes old.at new.at b d (ap begins_blank (sym t.0) ∙ h) t.0 t.1
