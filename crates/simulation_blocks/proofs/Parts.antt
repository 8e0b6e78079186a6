-- Operands in two parts: those that a list takes and those beneath them.
use Rattle.std.proofs.Common.{◌≡◌, ◌∙◌, ℕ, suc, List, [], ◌∷◌, ◌++◌, length, refl, ap, sym, append_assoc}
use Rattle.std.proofs.lemmas.List.{append-nil}
use Rattle.machine_steps.specs.Steps.{Turn, with_top}
use Rattle.rw_types.specs.declared.types.Ty.{Ty}
use Rattle.rich_types.specs.Scopes.{Scope}
use Rattle.rich_reduction.specs.Configurations.{Val}
use Rattle.simulation_relation.specs.Words.{AreSpelled, Book}

on_top : {V E A : Type 0} (front back : List V) (k : List V → List V → Turn E A) → with_top (length front) (front ++ back) k ≡ k front back
on_top [] back k = refl
on_top (v ∷ vs) back k = on_top vs back (λ taken beneath. k (v ∷ taken) beneath)

pub top_is : {V E A : Type 0} (n : ℕ) (vs front back : List V) (k : List V → List V → Turn E A) → n ≡ length front → vs ≡ front ++ back → with_top n vs k ≡ k front back
top_is n vs front back k e w = ap (λ (m : ℕ). with_top m vs k) e ∙ ap (λ (l : List _). with_top (length front) l k) w ∙ on_top front back k

-- the values and the words of both parts
pub record ArePartedSo (book : Book) (c : Scope) (ts us : List Ty) (vs : List Val) (ws : List ℕ) : Type 0 where
  pub taken : List Val
  pub beneath : List Val
  pub values : vs ≡ taken ++ beneath
  pub own : List ℕ
  pub under : List ℕ
  pub words : ws ≡ under ++ own
  pub count : length taken ≡ length ts
  pub top : AreSpelled book c ts taken own
  pub rest : AreSpelled book c us beneath under

module _ (book : Book) (c : Scope) where
  pub spelled_parted : (ts us : List Ty) (vs : List Val) (ws : List ℕ) → AreSpelled book c (ts ++ us) vs ws → ArePartedSo book c ts us vs ws
  spelled_parted [] us vs ws h = record { taken = []; beneath = vs; values = refl; own = []; under = ws; words = sym (append-nil ws); count = refl; top = refl; rest = h }
  spelled_parted (t ∷ ts) us [] ws h = absurd h
  spelled_parted (t ∷ ts) us (v ∷ vs) ws h =
      let x = spelled_parted ts us vs h.0 h.4 in
      record {
        taken = v ∷ x.taken;
        beneath = x.beneath;
        values = ap (λ (l : List Val). v ∷ l) x.values;
        own = x.own ++ h.1;
        under = x.under;
        words = h.2 ∙ ap (λ (l : List ℕ). l ++ h.1) x.words ∙ append_assoc x.under x.own h.1;
        count = ap suc x.count;
        top = (x.own, h.1, refl, h.3, x.top);
        rest = x.rest;
      }
