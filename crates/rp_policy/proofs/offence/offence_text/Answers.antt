use Rattle.std.proofs.Common.{◌≡◌, ℕ, List, [], ◌++◌, IfOk, chars, codes, string_bytes, ap, sym, subst, ◌∙◌}
use Rattle.std.specs.Fmt.{decimal}
use Rattle.std.proofs.lemmas.List.{append-nil}
use Rattle.std.proofs.lemmas.Str.{chars-nil}
use Rattle.rp_base.specs.declared.value.Name.{Name}
use Rattle.rp_base.specs.Names.{word_of}
use Rattle.rp_policy.specs.Offences.{offence_named, offence_text, what_named, what_text}
use Rattle.rp_policy.specs.declared.offence.Offence.{Offence}
use Rattle.rp_policy.specs.declared.offence.What.{What}
use Rattle.rp_policy.specs.declared.offence.What.TheVariants as what
use Rattle.rp_policy.proofs.offence.offence_text.Goals as goal

-- what tells what is wrong tells the offence, behind the line
told : (words : List (List ℕ)) (o : Offence Name) (w : What Name) (text : List ℕ) → o.what ≡ w → text ≡ what_text (what_named (word_of words) w) → codes "line " ++ decimal o.line.0 ++ codes ": " ++ text ≡ offence_text (offence_named (word_of words) o)
told words o w text is same = ap (λ x. codes "line " ++ decimal o.line.0 ++ codes ": " ++ x) (same ∙ ap (λ x. what_text (what_named (word_of words) x)) (sym is))

-- no word and nothing behind it
alone : (text : List ℕ) → text ++ chars [] ++ [] ≡ text
alone text = append-nil (text ++ chars []) ∙ (ap (λ x. text ++ x) chars-nil ∙ append-nil text)

pub returns-in-Attr : goal.returns-in-Attr
returns-in-Attr c =
    subst (λ x. IfOk c.text_at-in-Attr.result (λ text. chars (string_bytes text) ≡ x))
    (told c.args.names.now c.args.offence.now (what.Attr c.in-Attr.name) _ c.in-Attr.is (ap (λ w. codes "attribute \"" ++ w ++ codes "\" is forbidden") c.word_of-in-Attr.ensures))
    c.text_at-in-Attr.ensures

pub returns-in-Reserved : goal.returns-in-Reserved
returns-in-Reserved c =
    subst (λ x. IfOk c.text_at-in-Reserved.result (λ text. chars (string_bytes text) ≡ x))
    (told c.args.names.now c.args.offence.now (what.Reserved c.in-Reserved.name) _ c.in-Reserved.is (ap (λ w. codes "name \"" ++ w ++ codes "\" is reserved") c.word_of-in-Reserved.ensures))
    c.text_at-in-Reserved.ensures

pub returns-in-ExecEval : goal.returns-in-ExecEval
returns-in-ExecEval c =
    subst (λ x. IfOk c.text_at-in-ExecEval.result (λ text. chars (string_bytes text) ≡ x))
    (told c.args.names.now c.args.offence.now (what.ExecEval c.in-ExecEval.name) _ c.in-ExecEval.is (ap (λ w. codes "call of \"" ++ w ++ codes "\" is forbidden") c.word_of-in-ExecEval.ensures))
    c.text_at-in-ExecEval.ensures

pub returns-in-AugTarget : goal.returns-in-AugTarget
returns-in-AugTarget c =
    subst (λ x. IfOk c.text_at-in-AugTarget.result (λ text. chars (string_bytes text) ≡ x))
    (told c.args.names.now c.args.offence.now what.AugTarget _ c.in-AugTarget.is (alone (codes "augmented assignment to an attribute or item is forbidden")))
    c.text_at-in-AugTarget.ensures
