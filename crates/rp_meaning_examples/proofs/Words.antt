-- The words of the examples, each at its place among the names: behind the words of operations.
use Rattle.std.proofs.Common.{ℕ, List, [], ◌∷◌, ◌++◌, codes}
use Rattle.rp_base.specs.Names.{first_words}
use Rattle.rp_base.specs.declared.value.Name.{Name}

abbrev pub words : List (List ℕ)
words =
    first_words ++
    codes "x" ∷ codes "y" ∷ codes "rest" ∷ codes "more" ∷ codes "fun" ∷ codes "Item" ∷ codes "self" ∷ codes "n" ∷
    codes "total" ∷ codes "i" ∷ codes "part" ∷ codes "len" ∷ codes "f" ∷ codes "Box" ∷ codes "d" ∷ codes "k" ∷
    codes "v" ∷ codes "Bad" ∷ codes "Plain" ∷ codes "Len" ∷ codes "tries" ∷ codes "Exception" ∷ codes "e" ∷
    codes "make" ∷ codes "Inner" ∷ codes "who" ∷ codes "o" ∷ codes "print" ∷ codes "range" ∷ codes "ValueError" ∷
    codes "TypeError" ∷ codes "getattr" ∷ codes "setattr" ∷ codes "a" ∷ codes "t" ∷ codes "b" ∷ codes "c" ∷
    codes "xs" ∷ codes "append" ∷ codes "g" ∷ codes "KeyError" ∷ codes "IndexError" ∷ codes "LookupError" ∷
    codes "e2" ∷ codes "undefined" ∷ codes "outer" ∷ codes "inner" ∷ codes "h" ∷ codes "UnboundLocalError" ∷
    codes "z" ∷ codes "r" ∷ codes "NameError" ∷ codes "rec" ∷ codes "RecursionError" ∷ codes "m" ∷ codes "q" ∷
    codes "j" ∷ codes "else_" ∷ codes "Unauthorized" ∷ codes "s" ∷ codes "bool" ∷ codes "str" ∷ codes "class_" ∷
    codes "z2" ∷ codes "ForbiddenAttribute" ∷ codes "A" ∷ codes "both" ∷ codes "Local" ∷ codes "thing" ∷
    codes "removeSecurityProxy" ∷ codes "list" ∷ codes "kw" ∷ codes "Late" ∷ codes "l" ∷ codes "zz" ∷
    codes "ZeroDivisionError" ∷ codes "ArithmeticError" ∷ codes "AttributeError" ∷ codes "AssertionError" ∷ []

-- the name of the word so many places behind them
abbrev nth : ℕ → Name
nth n = record { 0 = n }

abbrev pub x' : Name
x' = nth 59

abbrev pub y' : Name
y' = nth 60

abbrev pub rest' : Name
rest' = nth 61

abbrev pub more' : Name
more' = nth 62

abbrev pub fun' : Name
fun' = nth 63

abbrev pub Item' : Name
Item' = nth 64

abbrev pub self' : Name
self' = nth 65

abbrev pub n' : Name
n' = nth 66

abbrev pub total' : Name
total' = nth 67

abbrev pub i' : Name
i' = nth 68

abbrev pub part' : Name
part' = nth 69

abbrev pub len' : Name
len' = nth 70

abbrev pub f' : Name
f' = nth 71

abbrev pub Box' : Name
Box' = nth 72

abbrev pub d' : Name
d' = nth 73

abbrev pub k' : Name
k' = nth 74

abbrev pub v' : Name
v' = nth 75

abbrev pub Bad' : Name
Bad' = nth 76

abbrev pub Plain' : Name
Plain' = nth 77

abbrev pub Len' : Name
Len' = nth 78

abbrev pub tries' : Name
tries' = nth 79

abbrev pub Exception' : Name
Exception' = nth 80

abbrev pub e' : Name
e' = nth 81

abbrev pub make' : Name
make' = nth 82

abbrev pub Inner' : Name
Inner' = nth 83

abbrev pub who' : Name
who' = nth 84

abbrev pub o' : Name
o' = nth 85

abbrev pub print' : Name
print' = nth 86

abbrev pub range' : Name
range' = nth 87

abbrev pub ValueError' : Name
ValueError' = nth 88

abbrev pub TypeError' : Name
TypeError' = nth 89

abbrev pub getattr' : Name
getattr' = nth 90

abbrev pub setattr' : Name
setattr' = nth 91

abbrev pub a' : Name
a' = nth 92

abbrev pub t' : Name
t' = nth 93

abbrev pub b' : Name
b' = nth 94

abbrev pub c' : Name
c' = nth 95

abbrev pub xs' : Name
xs' = nth 96

abbrev pub append' : Name
append' = nth 97

abbrev pub g' : Name
g' = nth 98

abbrev pub KeyError' : Name
KeyError' = nth 99

abbrev pub IndexError' : Name
IndexError' = nth 100

abbrev pub LookupError' : Name
LookupError' = nth 101

abbrev pub e2' : Name
e2' = nth 102

abbrev pub undefined' : Name
undefined' = nth 103

abbrev pub outer' : Name
outer' = nth 104

abbrev pub inner' : Name
inner' = nth 105

abbrev pub h' : Name
h' = nth 106

abbrev pub UnboundLocalError' : Name
UnboundLocalError' = nth 107

abbrev pub z' : Name
z' = nth 108

abbrev pub r' : Name
r' = nth 109

abbrev pub NameError' : Name
NameError' = nth 110

abbrev pub rec' : Name
rec' = nth 111

abbrev pub RecursionError' : Name
RecursionError' = nth 112

abbrev pub m' : Name
m' = nth 113

abbrev pub q' : Name
q' = nth 114

abbrev pub j' : Name
j' = nth 115

abbrev pub else_' : Name
else_' = nth 116

abbrev pub Unauthorized' : Name
Unauthorized' = nth 117

abbrev pub s' : Name
s' = nth 118

abbrev pub bool' : Name
bool' = nth 119

abbrev pub str' : Name
str' = nth 120

abbrev pub class_' : Name
class_' = nth 121

abbrev pub z2' : Name
z2' = nth 122

abbrev pub ForbiddenAttribute' : Name
ForbiddenAttribute' = nth 123

abbrev pub A' : Name
A' = nth 124

abbrev pub both' : Name
both' = nth 125

abbrev pub Local' : Name
Local' = nth 126

abbrev pub thing' : Name
thing' = nth 127

abbrev pub removeSecurityProxy' : Name
removeSecurityProxy' = nth 128

abbrev pub list' : Name
list' = nth 129

abbrev pub kw' : Name
kw' = nth 130

abbrev pub Late' : Name
Late' = nth 131

abbrev pub l' : Name
l' = nth 132

abbrev pub zz' : Name
zz' = nth 133

abbrev pub ZeroDivisionError' : Name
ZeroDivisionError' = nth 134

abbrev pub ArithmeticError' : Name
ArithmeticError' = nth 135

abbrev pub AttributeError' : Name
AttributeError' = nth 136

abbrev pub AssertionError' : Name
AssertionError' = nth 137
