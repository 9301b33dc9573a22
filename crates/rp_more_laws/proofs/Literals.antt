-- The law of f-literals.
use Rattle.std.proofs.Common.{◌≡◌, refl, sym, ap, subst, ◌∙◌, ℕ, zero, suc, Bool, true, false, List, [], ◌∷◌, ◌++◌}
use Rattle.std.proofs.Common.{length, map, map-id, slice_get, codes, Option, Some, None, if◌then◌else◌}
use Rattle.std.specs.Prelude.{nat_eq, nat_lt, ◌+◌, unwrap_or, encode_utf8_all}
use Rattle.std.specs.List.{concat, list_all}
use Rattle.std.specs.Option.{option_map, option_map_or}
use Rattle.std.proofs.lemmas.Cmp.{nat_eq_equiv}
use lib.Utf8.{encode}
use Rattle.rp_attributes.specs.Attributes as attributes
use Rattle.rp_attributes.specs.Attributes.{built_in_method}
use Rattle.rp_attributes.specs.declared.built_ins.Receiver.TheVariants as kind
use Rattle.rp_base.specs.Names.{word_of}
use Rattle.rp_base.specs.declared.native.NativeId.{NativeId}
use Rattle.rp_base.specs.declared.native.NativeId.TheVariants as native
use Rattle.rp_base.specs.declared.value.Name.{Name}
use Rattle.rp_base.specs.declared.value.Oid.{Oid}
use Rattle.rp_base.specs.declared.value.Rock.TheVariants as rock
use Rattle.rp_base.specs.declared.value.Side.{Side}
use Rattle.rp_base.specs.declared.value.Value.{Value}
use Rattle.rp_base.specs.declared.value.Value.TheVariants as value
use Rattle.rp_base.specs.declared.word.TheConstants.{CALL, STR}
use Rattle.rp_checker.specs.RowOf.{reading}
use Rattle.rp_methods.specs.Faults.{wrong_argument}
use Rattle.rp_methods.specs.Methods.{method}
use Rattle.rp_methods.specs.Texts.{is_text, joined, joined_all, letters_of, preceded}
use Rattle.rp_ops.specs.Binary.{new_object, new_text}
use Rattle.rp_ops.specs.Outcome as plain
use Rattle.rp_ops.specs.Outcome.{gives, on_value}
use Rattle.rp_ops.specs.Walk.{content_elements, elements, not_walked, walked}
use Rattle.rp_proxy.specs.Decide.{Decision, Monitor}
use Rattle.rp_proxy.specs.Taken.{taken}
use Rattle.rp_show.specs.Show.{show}
use Rattle.rp_store.specs.Heap.{Owned, content_at}
use Rattle.rp_store.specs.Object as object
use Rattle.rp_store.specs.Object.{Content}
use Rattle.rp_store.specs.Store.{Cells}
use Rattle.rp_store.specs.declared.object.Callee.TheVariants as callee
use Rattle.rp_tree.specs.Expressions as tree
use Rattle.rp_meaning.specs.State.{State, Outcome, heap_of, lifted, makes, monitor_of, plainly, stepped}
use Rattle.rp_native.specs.Functions.{function}
use Rattle.rp_fixed_laws.specs.Fixed.{AreBuiltIn, Fixed, Steady}
use Rattle.rp_fixed_laws.proofs.Parts as parts_stay
use Rattle.rp_fixed_laws.proofs.Trees.{exprs}
use Rattle.rp_meaning.specs.Frame.{Frame, Meaning, Natives, asked_for, asked_if, decided, got, takes}
use Rattle.rp_meaning.specs.Access.{get_attribute}
use Rattle.rp_meaning.specs.Binding.{Arguments, none, only}
use Rattle.rp_meaning.specs.BuiltIn as built
use Rattle.rp_meaning.specs.Calls as calls
use Rattle.rp_meaning.specs.Expressions as expression
use Rattle.rp_meaning.specs.Meaning as meaning
use Rattle.rp_meaning.specs.Meaning.{eval}
use Rattle.rp_more_laws.specs.Deciding.{DecidesProxiesAlone}
use Rattle.rp_more_laws.specs.Literals.{DecidesWhatIsShown, EachLiteralGivesItsText, IsWritten, Piece, Spelling}
use Rattle.rp_more_laws.specs.Literals.{ReadsStr, begun, join_tree, literal_tree, part, part_text}
use Rattle.rp_more_laws.specs.Literals.{piece_tree, piece_trees, run, str_value, text_of, text_value}
use Rattle.rp_more_laws.proofs.Going.{Holds, IsMade, asked_if_own, bind, choose_held, decided_held, goes, held_at}
use Rattle.rp_more_laws.proofs.Going.{lifted_held, makes_held, plain_makes_held, step, step_heap, step_held, step_names}
use Rattle.rp_more_laws.proofs.Going.{step_then, then_held, weaker}
use Rattle.rp_store.proofs.CallerLemmas.{slice_get-last}

-- `str` and `join` are the built-in function and the built-in method
record HasTexts (n : Natives) : Type 0 where
  decided : n.needs native.Str 0 1 ≡ Some STR
  str : (names : List (List ℕ)) (side : Side) (v : Value) (s : plain.State)
      → n.function names side native.Str (v ∷ []) s ≡ function names side native.Str (v ∷ []) s
  join : (names : List (List ℕ)) (side : Side) (v : Value) (vs : List Value) (s : plain.State)
      → n.method names side v native.Join vs s ≡ method side v native.Join vs s

has_texts : (n : Natives) → AreBuiltIn n → DecidesWhatIsShown n → HasTexts n
has_texts n b decided = record {
  decided = decided;
  str = λ names side v s. b.functions names side native.Str (v ∷ []) s;
  join = λ names side v vs s. b.methods names side v native.Join vs s;
}

-- ---- one argument

abbrev IsArgument : Meaning → Frame → State → Arguments → State → Type 0
IsArgument m frame s a u = (v : Value) × (a ≡ only (v ∷ [])) × (m frame s ≡ gives v u)

argument_held : (m : Meaning) (frame : Frame) (s : State)
    → Holds (calls.arguments (calls.plain_argument m ∷ []) none frame s) (IsArgument m frame s)
argument_held m frame s =
    then_held (calls.plain_argument m none frame s) (λ before s. gives before s) (IsArgument m frame s)
    (IsArgument m frame s)
    (bind (m frame s) (λ v s. gives (calls.with_plain none (v ∷ [])) s) (IsArgument m frame s) (λ v u e. (v, refl, e)))
    (λ a u _ h. h)

-- ---- the text of an expression

abbrev shown_by : Value → Frame → State → Outcome (List ℕ)
shown_by v frame s = asked_for frame STR v s (λ s. plainly (show s.names v) s)

abbrev IsShown : Value → Frame → State → Value → State → Type 0
IsShown v frame s r u = (text : List ℕ) × (shown_by v frame s ≡ gives text u) × (r ≡ text_value text)

-- `str(v)`, once that is decided
str_applied : (v : Value) (frame : Frame) (s : State) → HasTexts frame.run.natives
    → Holds (built.given native.Str (v ∷ []) frame s)
    (λ r u. (text : List ℕ) × (plainly (show s.names v) s ≡ gives text u) × (r ≡ text_value text))
str_applied v frame s texts =
    lifted_held (frame.run.natives.function s.names frame.side native.Str (v ∷ []) s.plain) s
    (λ r u. (text : List ℕ) × (plainly (show s.names v) s ≡ gives text u) × (r ≡ text_value text))
    (subst (λ o. Holds o (λ r p. (text : List ℕ) × (plainly (show s.names v) s ≡ gives text (record s { plain = p }))
    × (r ≡ text_value text)))
    (sym (texts.str s.names frame.side v s.plain))
    (bind (show s.names v s.plain) (λ t p. gives (text_value t) p)
    (λ r p. (text : List ℕ) × (plainly (show s.names v) s ≡ gives text (record s { plain = p }))
    × (r ≡ text_value text))
    (λ t p e. (t, ap (λ o. lifted o s) e, refl))))

str_held : (v : Value) (frame : Frame) (s : State) → HasTexts frame.run.natives
    → Holds (built.function native.Str (v ∷ []) frame s) (IsShown v frame s)
str_held v frame s texts =
    rw texts.decided
    (decided_held (frame.run.decide v (reading (word_of s.names STR)) (monitor_of s)) s
    (built.applied native.Str (v ∷ []) frame) (IsShown v frame s)
    (λ u leads. weaken u (leads (List ℕ) (λ s. plainly (show s.names v) s)))) where
      weaken : (u : State) → shown_by v frame s ≡ plainly (show u.names v) u
          → Holds (built.given native.Str (v ∷ []) frame u) (IsShown v frame s)
      weaken u leads =
          subst (λ (o : Outcome (List ℕ)). Holds (built.given native.Str (v ∷ []) frame u)
          (λ r u. (text : List ℕ) × (o ≡ gives text u) × (r ≡ text_value text)))
          (sym leads) (str_applied v frame u texts)

taken_text : (r : Value) (text : List ℕ) (frame : Frame) (s : State) → r ≡ text_value text → takes r frame s ≡ gives r s
taken_text r text frame s e = ap (λ r. takes r frame s) e ∙ by (nat_eq frame.side.0 0)
    ∙ ap (λ r. gives r s) (sym e) where
      by : (b : Bool) → gives (if b then text_value text else text_value text) s ≡ gives (text_value text) s
      by true = refl
      by false = refl

-- a call of `str` with a value
str_called : (v : Value) (frame : Frame) (s : State) → HasTexts frame.run.natives
    → Holds (calls.call str_value (only (v ∷ [])) frame s) (IsShown v frame s)
str_called v frame s texts =
    then_held (built.function_call native.Str (only (v ∷ [])) frame s) (λ r s. takes r frame s) (IsShown v frame s)
    (IsShown v frame s)
    (choose_held (frame.run.natives.is_function native.Str)
    (λ s. built.function native.Str (v ∷ []) frame s) built.not_called s (IsShown v frame s)
    (str_held v frame s texts) tt)
    (λ r u _ h. subst (λ o. Holds o (IsShown v frame s)) (sym (taken_text r h.0 frame u h.2)) h)

abbrev IsPartText : Spelling → tree.Expr → Frame → State → Value → State → Type 0
IsPartText p x frame s v u = (text : List ℕ) × (part_text p.str x frame s ≡ gives text u) × (v ≡ text_value text)

part_held : (p : Spelling) (x : tree.Expr) (frame : Frame) (s : State) → HasTexts frame.run.natives
    → ((v : Value) (u : State) → expression.name p.str frame s ≡ gives v u → v ≡ str_value)
    → Holds (eval (piece_tree p (part x)) frame s) (IsPartText p x frame s)
part_held p x frame s texts reads =
    bind (expression.name p.str frame s)
    (λ f s. expression.trailers (expression.call (calls.plain_argument (eval x) ∷ []) ∷ []) f frame s)
    (IsPartText p x frame s) (λ f s1 e1.
    subst (λ f. Holds (expression.trailers (expression.call (calls.plain_argument (eval x) ∷ []) ∷ []) f frame s1)
    (IsPartText p x frame s)) (sym (reads f s1 e1))
    (step_then s1 (expression.call (calls.plain_argument (eval x) ∷ []) str_value frame) (λ r s. gives r s)
    (IsPartText p x frame s) (λ s2 e2.
    then_held (expression.call (calls.plain_argument (eval x) ∷ []) str_value frame s2) (λ r s. gives r s)
    (IsPartText p x frame s) (IsPartText p x frame s)
    (then_held (calls.arguments (calls.plain_argument (eval x) ∷ []) none frame s2)
    (λ a s. calls.call str_value a frame s) (IsArgument (eval x) frame s2) (IsPartText p x frame s)
    (argument_held (eval x) frame s2) (λ a s3 _ h.
    subst (λ a. Holds (calls.call str_value a frame s3) (IsPartText p x frame s)) (sym h.1)
    (weaken f s1 s2 h.0 s3 e1 e2 h.2 (str_called h.0 frame s3 texts))))
    (λ r u _ h. h)))) where
      weaken : (f : Value) (s1 s2 : State) (v : Value) (s3 : State) → expression.name p.str frame s ≡ gives f s1
          → step s1
          ≡ gives (tt {0}) s2 → eval x frame s2 ≡ gives v s3
          → Holds (calls.call str_value (only (v ∷ [])) frame s3) (IsShown v frame s3)
          → Holds (calls.call str_value (only (v ∷ [])) frame s3) (IsPartText p x frame s)
      weaken f s1 s2 v s3 e1 e2 e3 h =
          subst (λ (o : Outcome (List ℕ)). Holds (calls.call str_value (only (v ∷ [])) frame s3)
          (λ r u. (text : List ℕ) × (o ≡ gives text u) × (r ≡ text_value text)))
          (sym (goes (λ f s. stepped s (λ s. on_value (eval x frame s) (λ v s. shown_by v frame s))) e1
          (goes (λ _ s. on_value (eval x frame s) (λ v s. shown_by v frame s)) e2
          (goes (λ v s. shown_by v frame s) e3 refl)))) h

-- ---- the pieces

abbrev AreWritten : Spelling → List Piece → Frame → State → List Value → State → Type 0
AreWritten p ps frame s vs u = (text_of p.str ps frame s ≡ gives (concat (map letters_of vs)) u)

pieces_held : (p : Spelling) (ps : List Piece) (frame : Frame) (s : State) → HasTexts frame.run.natives
    → ReadsStr p ps frame s
    → Holds (expression.values (meaning.exprs (piece_trees p ps)) frame s) (AreWritten p ps frame s)
pieces_held p [] frame s texts reads = refl
pieces_held p (run cs ∷ ps) frame s texts reads =
    bind (eval (piece_tree p (run cs)) frame s)
    (λ v s. on_value (expression.values (meaning.exprs (piece_trees p ps)) frame s) (λ vs s. gives (v ∷ vs) s))
    (AreWritten p (run cs ∷ ps) frame s) (λ v s1 e1.
    then_held (expression.values (meaning.exprs (piece_trees p ps)) frame s1) (λ vs s. gives (v ∷ vs) s)
    (AreWritten p ps frame s1) (AreWritten p (run cs ∷ ps) frame s)
    (pieces_held p ps frame s1 texts (reads v s1 e1)) (λ vs u _ rest.
    let c = constant_given cs v frame s s1 e1 in
    goes (λ _ s. on_value (text_of p.str ps frame s) (λ rest s. gives (cs ++ rest) s)) c.0
    (goes (λ rest s. gives (cs ++ rest) s) rest refl)
    ∙ ap (λ v. gives (letters_of v ++ concat (map letters_of vs)) u) (sym c.1))) where
      constant_given : (cs : List ℕ) (v : Value) (frame : Frame) (s u : State)
          → expression.constant (text_value cs) frame s ≡ gives v u
          → (step s ≡ gives (tt {0}) u) × (v ≡ text_value cs)
      constant_given cs v frame s u h =
          held_at (expression.constant (text_value cs) frame s)
          (λ v u. (step s ≡ gives (tt {0}) u) × (v ≡ text_value cs))
          v u
          (step_held s (gives (text_value cs)) (λ v u. (step s ≡ gives (tt {0}) u) × (v ≡ text_value cs))
          (λ u e. (e, refl))) h
pieces_held p (part x ∷ ps) frame s texts reads =
    then_held (eval (piece_tree p (part x)) frame s)
    (λ v s. on_value (expression.values (meaning.exprs (piece_trees p ps)) frame s) (λ vs s. gives (v ∷ vs) s))
    (IsPartText p x frame s) (AreWritten p (part x ∷ ps) frame s) (part_held p x frame s texts reads.0) (λ v s1 e1 h.
    then_held (expression.values (meaning.exprs (piece_trees p ps)) frame s1) (λ vs s. gives (v ∷ vs) s)
    (AreWritten p ps frame s1) (AreWritten p (part x ∷ ps) frame s)
    (pieces_held p ps frame s1 texts (reads.1 v s1 e1)) (λ vs u _ rest.
    goes (λ shown s. on_value (text_of p.str ps frame s) (λ rest s. gives (shown ++ rest) s)) h.1
    (goes (λ rest s. gives (h.0 ++ rest) s) rest refl)
    ∙ ap (λ v. gives (letters_of v ++ concat (map letters_of vs)) u) (sym h.2)))

-- ---- `''.join`

abbrev join_content : Content
join_content = object.method (text_value []) (callee.Native native.Join)

join_named : built_in_method kind.Text (codes "join") ≡ Some native.Join
unfolding encode
join_named = refl

-- the bound method stands at a place of its own
abbrev IsJoin : State → Value → State → Type 0
IsJoin s f u = (at : Oid) × (f ≡ value.Ref at) × (content_at (heap_of u) at ≡ Some join_content) × (u.names ≡ s.names)

-- what a side makes it gets as it is
taken_own : (side : Side) (heap : List Owned) (content : Content) (at : Oid) → at.0 ≡ length heap
    → taken (heap ++ record { owner = side; content = content } ∷ []) side (value.Ref at) ≡ value.Ref at
taken_own side heap content at place =
    ap (λ b. if nat_eq side.0 0 then value.Ref at else (if b then value.Ref at else value.Prox at))
    (ap (λ i. option_map_or (λ (owner : Side). nat_eq owner.0 side.0)
    (option_map (λ (o : Owned). o.owner) (slice_get (heap ++ record { owner = side; content = content } ∷ []) i))
    false) place
    ∙ ap (λ o. option_map_or (λ (owner : Side). nat_eq owner.0 side.0) (option_map (λ (o : Owned). o.owner) o) false)
    (slice_get-last heap (record { owner = side; content = content }))
    ∙ nat_eq_equiv.refl side.0)
    ∙ by (nat_eq side.0 0) where
      by : (b : Bool) → (if b then value.Ref at else value.Ref at) ≡ value.Ref at
      by true = refl
      by false = refl

new_held : (side : Side) (content : Content) (s : State)
    → Holds (plainly (new_object side content) s) (λ v u. (at : Oid) × (v ≡ value.Ref at) × IsMade side content s at u)
new_held side content s =
    lifted_held (new_object side content s.plain) s
    (λ v u. (at : Oid) × (v ≡ value.Ref at) × IsMade side content s at u)
    (then_held (plain.makes side content s.plain) (λ at p. gives (value.Ref at) p)
    (λ at p. IsMade side content s at (record s { plain = p }))
    (λ v p. (at : Oid) × (v ≡ value.Ref at) × IsMade side content s at (record s { plain = p }))
    (plain_makes_held side content s) (λ at p _ made. (at, refl, made)))

-- the bound method is made
abbrev bound_by : Frame → List ℕ → Option NativeId → plain.State → plain.Outcome Value
bound_by frame word id p = attributes.bound frame.side (text_value []) (option_map callee.Native id) word p

attribute_held : (n : Name) (frame : Frame) (s : State) → DecidesProxiesAlone frame.run → word_of s.names n
    ≡ codes "join"
    → Holds (get_attribute (text_value []) n frame s) (IsJoin s)
attribute_held n frame s free word =
    subst (λ (o : Outcome Value). Holds o (IsJoin s)) (sym is_made)
    (then_held (plainly (new_object frame.side join_content) s) (λ v s. got (text_value []) v frame s)
    (λ v u. (at : Oid) × (v ≡ value.Ref at) × IsMade frame.side join_content s at u) (IsJoin s)
    (new_held frame.side join_content s) (λ v u _ h. (
      h.0,
      ap (λ v. taken (heap_of u) frame.side v) h.1 ∙ ap (λ heap. taken heap frame.side (value.Ref h.0)) h.2.heap
          ∙ taken_own frame.side (heap_of s) join_content h.0 h.2.place,
      h.2.there,
      h.2.names,
    ))) where
      go : plain.Outcome Value → Outcome Value
      go o = on_value (lifted o s) (λ v s. got (text_value []) v frame s)

      is_made : get_attribute (text_value []) n frame s ≡ on_value (plainly (new_object frame.side join_content) s)
          (λ v s. got (text_value []) v frame s)
      is_made =
          ap (λ (d : Decision × Monitor). decided d s
          (λ s. on_value (plainly (attributes.attribute frame.side (text_value []) n (word_of s.names n)) s)
          (λ v s. got (text_value []) v frame s)))
          (free.rocks (rock.Text []) (reading (word_of s.names n)) (monitor_of s))
          ∙ ap (λ w. go (bound_by frame w (built_in_method kind.Text w) s.plain)) word
          ∙ ap (λ id. go (bound_by frame (codes "join") id s.plain)) join_named

-- ---- the list of the pieces

record IsListed (ms : List Meaning) (frame : Frame) (s : State) (v : Value) (u : State) : Type 0 where
  first : State
  is_first : step s ≡ gives (tt {0}) first
  held : List Value
  last : State
  evaluated : expression.values ms frame first ≡ gives held last
  at : Oid
  result : v ≡ value.Ref at
  made : IsMade frame.side (object.list held) last at u

list_held : (ms : List Meaning) (frame : Frame) (s : State) → Holds (expression.list ms frame s) (IsListed ms frame s)
list_held ms frame s =
    step_held s (λ s. on_value (expression.values ms frame s) (λ vs s. expression.makes_own (object.list vs) frame s))
    (IsListed ms frame s) (λ s1 e1.
    bind (expression.values ms frame s1) (λ vs s. expression.makes_own (object.list vs) frame s) (IsListed ms frame s)
    (λ vs s2 e2.
    then_held (makes frame.side (object.list vs) s2) (λ at s. gives (value.Ref at) s)
    (IsMade frame.side (object.list vs) s2) (IsListed ms frame s)
    (makes_held frame.side (object.list vs) s2) (λ at u _ made.
    record { first = s1; is_first = e1; held = vs; last = s2; evaluated = e2; at = at; result = refl; made = made })))

-- ---- the texts are joined

walked_held : (xs : List Value) (store : Cells) (n : ℕ) → Holds (walked xs (plain.state_of store n)) (λ ys q. ys ≡ xs)
walked_held [] store n = refl
walked_held (x ∷ xs) store zero = tt
walked_held (x ∷ xs) store (suc n) =
    then_held (walked xs (plain.state_of store n)) (λ ys q. gives (x ∷ ys) q) (λ ys q. ys ≡ xs) (λ ys q. ys ≡ x ∷ xs)
    (walked_held xs store n) (λ ys q _ e. ap (λ l. x ∷ l) e)

preceded_is : (ts : List (List ℕ)) → preceded [] ts ≡ concat ts
preceded_is [] = refl
preceded_is (t ∷ ts) = ap (λ l. t ++ l) (preceded_is ts)

joined_is : (ts : List (List ℕ)) → joined [] ts ≡ concat ts
joined_is [] = refl
joined_is (t ∷ ts) = ap (λ l. t ++ l) (preceded_is ts)

abbrev IsJoined : {S : Type 0} → List Value → Value → S → Type 0
IsJoined vs r q = r ≡ text_value (concat (map letters_of vs))

text_held : (t : List ℕ) (p : plain.State) → Holds (new_text t p) (λ r q. r ≡ text_value t)
text_held t p = by (nat_lt p.store.limit (p.store.used + length (encode_utf8_all t))) where
  by : (b : Bool)
      → Holds (if b then plain.ends plain.no_cell p else gives (text_value t)
      (plain.with_used p (p.store.used + length (encode_utf8_all t)))) (λ r q. r ≡ text_value t)
  by true = tt
  by false = refl

joined_held : (vs : List Value) (p : plain.State) → Holds (joined_all [] vs p) (IsJoined vs)
joined_held vs p = by (list_all is_text vs) where
  by : (b : Bool) → Holds (if b then new_text (joined [] (map letters_of vs)) p else wrong_argument p) (IsJoined vs)
  by true = subst (λ t. Holds (new_text (joined [] (map letters_of vs)) p) (λ r q. r ≡ text_value t))
      (joined_is (map letters_of vs))
      (text_held (joined [] (map letters_of vs)) p)
  by false = tt

elements_held : (l : Oid) (vs : List Value) (p : plain.State) → content_at p.store.heap l ≡ Some (object.list vs)
    → Holds (elements (value.Ref l) p) (λ ys q. ys ≡ vs)
elements_held l vs p there =
    subst (λ c. Holds (option_map_or (λ c. content_elements (λ v. v) c p) c (not_walked p)) (λ ys q. ys ≡ vs))
    (sym there)
    (subst (λ xs. Holds (walked xs p) (λ ys q. ys ≡ vs)) (sym (map-id vs)) (walked_held vs p.store p.steps))

join_held : (owner : Side) (l : Oid) (vs : List Value) (p : plain.State) → content_at p.store.heap l
    ≡ Some (object.list vs)
    → Holds (method owner (text_value []) native.Join (value.Ref l ∷ []) p) (IsJoined vs)
join_held owner l vs p there =
    then_held (elements (value.Ref l) p) (λ ys p. joined_all [] ys p) (λ ys q. ys ≡ vs) (IsJoined vs)
    (elements_held l vs p there)
    (λ ys q _ e. subst (λ ys. Holds (joined_all [] ys q) (IsJoined vs)) (sym e) (joined_held vs q))

-- ---- the call

object_at : (heap : List Owned) (at : Oid) (c : Content) → content_at heap at ≡ Some c → (o : Owned)
    × (slice_get heap at.0 ≡ Some o) × (o.content ≡ c)
object_at heap at c h = by (slice_get heap at.0) refl h where
  by : (x : Option Owned) → slice_get heap at.0 ≡ x → option_map (λ (o : Owned). o.content) x ≡ Some c
      → (o : Owned) × (slice_get heap at.0 ≡ Some o) × (o.content ≡ c)
  by None e h = absurd (cc)
  by (Some o) e h = (o, e, ap (λ x. unwrap_or x c) h)

call_is : (at : Oid) (a : Arguments) (frame : Frame) (s : State) (o : Owned) → DecidesProxiesAlone frame.run
    → slice_get (heap_of s) at.0 ≡ Some o → o.content ≡ join_content
    → calls.call (value.Ref at) a frame s
    ≡ on_value (built.method_call o.owner (text_value []) native.Join a frame s) (λ r s. got (value.Ref at) r frame s)
call_is at a frame s o free there content =
    rw (free.own at (reading (word_of s.names CALL)) (monitor_of s)) (rw there (rw content refl))

method_held : (owner : Side) (l : Oid) (vs : List Value) (frame : Frame) (s : State) → HasTexts frame.run.natives
    → content_at (heap_of s) l ≡ Some (object.list vs)
    → Holds (plainly (frame.run.natives.method s.names owner (text_value []) native.Join (value.Ref l ∷ [])) s)
    (IsJoined vs)
method_held owner l vs frame s texts there =
    lifted_held (frame.run.natives.method s.names owner (text_value []) native.Join (value.Ref l ∷ []) s.plain) s
    (IsJoined vs)
    (subst (λ o. Holds o (IsJoined vs)) (sym (texts.join s.names owner (text_value []) (value.Ref l ∷ []) s.plain))
    (join_held owner l vs s.plain there))

-- a call of the bound method with a list
join_called : (at l : Oid) (vs : List Value) (frame : Frame) (s : State) → DecidesProxiesAlone frame.run
    → HasTexts frame.run.natives
    → content_at (heap_of s) at ≡ Some join_content → content_at (heap_of s) l ≡ Some (object.list vs)
    → Holds (calls.call (value.Ref at) (only (value.Ref l ∷ [])) frame s) (IsJoined vs)
join_called at l vs frame s free texts there listed =
    let o = object_at (heap_of s) at join_content there in
    subst (λ (x : Outcome Value). Holds x (IsJoined vs))
    (sym (call_is at (only (value.Ref l ∷ [])) frame s o.0 free o.1 o.2))
    (then_held (built.method_call o.0.owner (text_value []) native.Join (only (value.Ref l ∷ [])) frame s)
    (λ r s. got (value.Ref at) r frame s) (IsJoined vs) (IsJoined vs)
    (choose_held (frame.run.natives.is_method (heap_of s) (text_value []) native.Join)
    (this o.0.owner) built.not_called s (IsJoined vs)
    (subst (λ (x : Outcome Value). Holds x (IsJoined vs))
    (sym (asked_if_own frame free (frame.run.natives.needs native.Join 0 1) l s (joins o.0.owner)))
    (method_held o.0.owner l vs frame s texts listed)) tt)
    (λ r u _ h. subst (λ x. Holds x (IsJoined vs)) (sym (taken_text r (concat (map letters_of vs)) frame u h)) h)) where
      joins : Side → State → Outcome Value
      joins owner s = plainly (frame.run.natives.method s.names owner (text_value []) native.Join (value.Ref l ∷ [])) s

      this : Side → State → Outcome Value
      this owner s = asked_if frame (frame.run.natives.needs native.Join 0 1) (value.Ref l) s (joins owner)

-- ---- what the pieces do leaves the bound method

abbrev join_at : Oid → Fixed
join_at at = record { object = record { at = at; content = join_content }; fixed = tt }

join_stays : (p : Spelling) (ps : List Piece) (frame : Frame) (s u : State) (vs : List Value) (at : Oid)
    → Steady (join_at at) frame.calls frame.run → content_at (heap_of s) at ≡ Some join_content
    → expression.values (meaning.exprs (piece_trees p ps)) frame s ≡ gives vs u
    → content_at (heap_of u) at ≡ Some join_content
join_stays p ps frame s u vs at steady there e =
    sym (ap (λ (o : Outcome (List Value)). content_at (heap_of o.state) at) e)
    ∙ (parts_stay.values (meaning.exprs (piece_trees p ps)) (exprs (piece_trees p ps))
    (join_at at) frame steady s there).there

-- ---- the whole

pub gives_text : EachLiteralGivesItsText
gives_text p ps frame s u v free steady shown word is_plain h = held_at (eval (literal_tree p ps) frame s)
    (λ v u. IsWritten p ps frame s v) v u whole h where
      pieces : List Meaning
      pieces = meaning.exprs (piece_trees p ps)

      argument : List calls.Argument
      argument = calls.plain_argument (expression.list pieces) ∷ []

      attribute : Value → Meaning
      attribute = expression.attribute p.join.name

      texts : HasTexts frame.run.natives
      texts = has_texts frame.run.natives (steady (join_at (record { 0 = 0 }))).quiet.natives shown

      P : Value → State → Type 0
      P v u = IsWritten p ps frame s v

      join_gives : (s0 s1 s2 : State) (f : Value) → step s ≡ gives (tt {0}) s0 → step s0 ≡ gives (tt {0}) s1
          → get_attribute (text_value []) p.join.name frame s1 ≡ gives f s2
          → eval (join_tree p) frame s ≡ gives f s2
      join_gives s0 s1 s2 f e0 e1 e2 =
          goes (λ v s. expression.trailers (attribute ∷ []) v frame s) (goes (λ _ s. gives (text_value []) s) e0 refl)
          (goes (λ v s. gives v s) (goes (λ _ s. get_attribute (text_value []) p.join.name frame s) e1 e2) refl)

      begun_gives : (s2 s3 s4 : State) (f : Value) → eval (join_tree p) frame s ≡ gives f s2 → step s2 ≡ gives
          (tt {0}) s3
          → step s3 ≡ gives (tt {0}) s4
          → begun p frame s ≡ gives f s4
      begun_gives s2 s3 s4 f e e3 e4 =
          goes (λ f s. stepped s (λ s. stepped s (gives f))) e
          (goes (λ _ s. stepped s (gives f)) e3 (goes (λ _ s. gives f s) e4 refl))

      -- the bound method is called with the list
      joined_list : (s1 s2 s3 s4 : State) (f v : Value) → eval (join_tree p) frame s ≡ gives f s2 → step s2
          ≡ gives (tt {0}) s3 → (is_join : IsJoin s1 f s2)
          → (listed : IsListed pieces frame s3 v s4) → Holds (calls.call f (only (v ∷ [])) frame s4) P
      joined_list s1 s2 s3 s4 f v e e3 is_join listed =
          let is_begun = begun_gives s2 s3 listed.first f e e3 listed.is_first in
          let there = join_stays p ps frame listed.first listed.last listed.held is_join.0 (steady (join_at is_join.0))
          (ap (λ heap. content_at heap is_join.0) (step_heap s3 listed.first listed.is_first ∙ step_heap s2 s3 e3)
          ∙ is_join.2) listed.evaluated in
          subst (λ v. Holds (calls.call f (only (v ∷ [])) frame s4) P) (sym listed.result)
          (subst (λ f. Holds (calls.call f (only (value.Ref listed.at ∷ [])) frame s4) P) (sym is_join.1)
          (weaker (calls.call (value.Ref is_join.0) (only (value.Ref listed.at ∷ [])) frame s4) (IsJoined listed.held) P
          (λ r u h. record {
            bound = f;
            before = listed.first;
            is_begun = is_begun;
            text = concat (map letters_of listed.held);
            behind = listed.last;
            shown = held_at (expression.values pieces frame listed.first)
                (AreWritten p ps frame listed.first) listed.held listed.last
                (pieces_held p ps frame listed.first texts (is_plain f listed.first is_begun)) listed.evaluated;
            result = h;
          })
          (join_called is_join.0 listed.at listed.held frame s4 free texts
          (listed.made.stay is_join.0 join_content there) listed.made.there)))

      called : (s1 s2 s3 : State) (f : Value) → eval (join_tree p) frame s ≡ gives f s2 → step s2 ≡ gives (tt {0}) s3
          → IsJoin s1 f s2
          → Holds (expression.call argument f frame s3) P
      called s1 s2 s3 f e e3 is_join =
          then_held (calls.arguments argument none frame s3) (λ a s. calls.call f a frame s)
          (IsArgument (expression.list pieces) frame s3) P
          (argument_held (expression.list pieces) frame s3) (λ a s4 _ given.
          subst (λ a. Holds (calls.call f a frame s4) P) (sym given.1)
          (joined_list s1 s2 s3 s4 f given.0 e e3
          is_join (held_at (expression.list pieces frame s3) (IsListed pieces frame s3) given.0 s4
          (list_held pieces frame s3) given.2)))

      whole : Holds (eval (literal_tree p ps) frame s) P
      whole =
          step_then s (gives (text_value []))
          (λ v s. expression.trailers (attribute ∷ expression.call argument ∷ []) v frame s) P (λ s0 e0.
          step_then s0 (attribute (text_value []) frame)
          (λ v s. expression.trailers (expression.call argument ∷ []) v frame s) P (λ s1 e1.
          then_held (get_attribute (text_value []) p.join.name frame s1)
          (λ v s. expression.trailers (expression.call argument ∷ []) v frame s) (IsJoin s1) P
          (attribute_held p.join.name frame s1 free
          (ap (λ names. word_of names p.join.name) (step_names s0 s1 e1 ∙ step_names s s0 e0) ∙ word))
          (λ f s2 e2 is_join.
          step_then s2 (expression.call argument f frame) (λ r s. gives r s) P (λ s3 e3.
          then_held (expression.call argument f frame s3) (λ r s. gives r s) P P
          (called s1 s2 s3 f (join_gives s0 s1 s2 f e0 e1 e2) e3 is_join) (λ r u _ h. h)))))
