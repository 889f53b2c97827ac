-- From the check of the table to what is answered.
use Prim.Native.Nat.{ℕ}
use mathlib.Core.Path.{◌≡◌, sym, ap, ◌∙◌}
use mathlib.Core.List.{List}
use mathlib.Core.Option.{Option}
use lib.ListN.{length, replicate}
use Rattle.std.specs.Prelude.{Ok, Err}
use Rattle.types.specs.declared.refusal.Refusal.TheVariants as refusal
use Rattle.types.specs.declared.refusal.Refusal.{Refusal}
use Rattle.types.specs.Out.{Out, required}
use Rattle.names.specs.Table.{Name, names_of, split, IsTable}
use Rattle.names.specs.Inner.{Unplaced, Places}
use Rattle.names.specs.Reply.{table_reply}
use Rattle.names.proofs.Tables.{names_of_is, split_is}
use Rattle.names.proofs.Replies.{Counted, counted, faulty}
use Rattle.names.proofs.Places.{table_listable, unplaced}
use Rattle.name_lookup.specs.Lookup.{position, find_reply}
use Rattle.name_lookup.specs.Inner.{Sought}
use Rattle.name_lookup.specs.declared.Position.{Position}

pub reply_of : (t : List ℕ) (x : Name) {o : Option (List Name)} → names_of t ≡ o → find_reply t x ≡ required refusal.BadTable o (λ (ns : List Name). Ok (position ns x))
unfolding find_reply
reply_of t x e = ap (λ (o : Option (List Name)). required refusal.BadTable o (λ (ns : List Name). Ok (position ns x))) e

module _ (t : List ℕ) where
  pub find_refused : {e : Refusal} → Err e ≡ table_reply t → (x : Name) → Err e ≡ find_reply t x
  unfolding required
  find_refused h x = let F = faulty h in ap {B = Out Position} Err F.refusal ∙ sym (reply_of t x F.is)

  module _ {n : ℕ} (e : Ok n ≡ table_reply t) where
    known : Counted t n
    known = counted e

    is_table : IsTable t known.names
    is_table = names_of_is t known.names known.is

    is_split : IsTable t (split t)
    is_split = rw (split_is is_table) is_table

    pub find_unplaced : Unplaced t (replicate 4096 0)
    find_unplaced = unplaced (table_listable is_table)

    pub find_sought : {ps : List ℕ} → Places t ps → Sought t ps n
    find_sought P = record { is = is_split; places = P; all = known.count ∙ ap length (sym (split_is is_table)) }

    pub find_done : (x : Name) {q : Position} → q ≡ position (split t) x → Ok q ≡ find_reply t x
    unfolding required
    find_done x g = ap {B = Out Position} Ok (g ∙ ap (λ (ns : List Name). position ns x) (split_is is_table)) ∙ sym (reply_of t x known.is)
