-- What are the names of keys and values that startup reads? (Microsoft's documentation of `Select`, of the control sets and of the
-- services' keys)
use Rattle.std.specs.Prelude.{ℕ, List, [], ◌∷◌, codes}

-- in the order of the code
abbrev pub texts : List (List ℕ)
texts =
    codes "Select" ∷ codes "Current" ∷ codes "Default" ∷ codes "Failed" ∷ codes "LastKnownGood" ∷ codes "ControlSet" ∷
    codes "CurrentControlSet" ∷ codes "Control" ∷ codes "ServiceGroupOrder" ∷ codes "List" ∷ codes "GroupOrderList" ∷ codes "SafeBoot" ∷ codes "Minimal" ∷ codes "Network" ∷
    codes "Services" ∷ codes "Start" ∷ codes "Type" ∷ codes "ErrorControl" ∷ codes "Group" ∷ codes "Tag" ∷ codes "DependOnService" ∷ codes "DependOnGroup" ∷
    codes "ImagePath" ∷ codes "ObjectName" ∷ []
