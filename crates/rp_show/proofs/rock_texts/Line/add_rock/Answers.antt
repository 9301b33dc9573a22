use Rattle.std.proofs.Common.{◌≡◌, ◌++◌, OnOk, sym, ap, ◌∙◌, subst, true, false, List, ℕ}
use Rattle.std.specs.Prelude.{codes}
use Rattle.std.specs.Str.{chars}
use Rattle.rp_base.specs.declared.value.Rock.{Rock}
use Rattle.rp_base.specs.declared.value.Rock.TheVariants as rock
use Rattle.rp_show.specs.Shown.{shown_inside}
use Rattle.rp_show.proofs.Escapes.{chars-kind, chars-native}
use Rattle.rp_show.proofs.rock_texts.Line.add_rock.Goals as goal

pub returns-in-Nil : goal.returns-in-Nil
unfolding chars
returns-in-Nil c = rw c.in-Nil.is c.add.ensures

pub returns-in-Truth-true : goal.returns-in-Truth-true
unfolding chars
returns-in-Truth-true c =
    let is : c.args.rock.now ≡ rock.Truth true = cc in
    subst (λ (r : Rock). OnOk c.add-in-Truth-true.result (c.add-in-Truth-true.new.self ≡ c.args.self.now ++ shown_inside r)) (sym is) c.add-in-Truth-true.ensures

pub returns-in-Truth-false : goal.returns-in-Truth-false
unfolding chars
returns-in-Truth-false c =
    let is : c.args.rock.now ≡ rock.Truth false = cc in
    subst (λ (r : Rock). OnOk c.add-in-Truth-false.result (c.add-in-Truth-false.new.self ≡ c.args.self.now ++ shown_inside r)) (sym is) c.add-in-Truth-false.ensures

pub returns-in-Kind : goal.returns-in-Kind
unfolding chars
returns-in-Kind c =
    rw c.in-Kind.is
    (subst (λ (t : List ℕ). OnOk c.add_around.result (c.add_around.new.self ≡ c.args.self.now ++ (codes "<class '" ++ t ++ codes "'>")))
    (ap chars c.as_str-in-Kind.ensures ∙ chars-kind c.in-Kind.kind)
    c.add_around.ensures)

pub returns-in-Native : goal.returns-in-Native
unfolding chars
returns-in-Native c =
    rw c.in-Native.is
    (subst (λ (t : List ℕ). OnOk c.add_around-in-Native.result (c.add_around-in-Native.new.self ≡ c.args.self.now ++ (codes "<function " ++ t ++ codes ">")))
    (ap chars c.as_str-in-Native.ensures ∙ chars-native c.in-Native.native)
    c.add_around-in-Native.ensures)
