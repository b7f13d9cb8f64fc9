pub mod Abstract
pub mod Arithmetics
pub mod BitPolynomials
pub mod Field
pub mod Moduli
pub mod Polynomial
pub mod Remainder
pub mod Theorems
