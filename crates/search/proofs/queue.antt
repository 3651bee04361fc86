mod Reciprocal
