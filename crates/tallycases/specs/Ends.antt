-- the algebra of the first tree's ends
use Rattle.theory.specs.Algebra.{Algebra, Weights}
use Rattle.tallycases.specs.declared.ends.Ends.{Ends}
use Rattle.tallycases.specs.declared.ends.Ends.TheVariants.{NoTree, NoMethod, Methods}

-- the first of two, unless there is none
abbrev pub first_of : Ends → Ends → Ends
first_of NoTree y = y
first_of NoMethod y = NoMethod
first_of (Methods f l) y = Methods f l

-- from the beginning of the one to the end of the other
abbrev pub outer : Ends → Ends → Ends
outer NoTree y = NoTree
outer NoMethod y = y
outer (Methods f l) NoTree = NoTree
outer (Methods f l) NoMethod = Methods f l
outer (Methods f l) (Methods g m) = Methods f m

abbrev pub ends : Algebra Ends
ends = record { zero = NoTree; one = NoMethod; plus = first_of; times = outer }

abbrev pub ends_weight : Weights Ends
ends_weight task price grade = Methods task task
